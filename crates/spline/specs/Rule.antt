-- The step rule, as a predicate over all places of ℤ³: Sections 3.3, 3.4.
use Rattle.std.specs.Prelude.{◌≡◌, cond, ℕ, suc, ◌-◌, ◌≤◌, ltb, ℤ, pos, negsuc, ◌-ℤ◌}
use Rattle.spline.specs.Place.{Axis, Direction, along, diagonal, Place, Net, ◌⊕◌, ◌⊖◌}
use Rattle.spline.specs.Place.{floor_div, floor_mod, compose}

-- Section 3.3: the remainder on an axis, one lower if it exceeds that on the direction's axis
unfoldable pub lower_above : ℕ → ℕ → ℕ
lower_above ud ub = cond (ltb ud ub) (ub - 1) ub

-- Section 3.3: the lowered remainder w, axis by axis; the diagonal lowers none
abbrev pub lowered : Direction → (Axis → ℕ) → Axis → ℕ
lowered (along a) u b = lower_above (u a) (u b)
lowered diagonal u b = u b

-- Section 3.3: the cell k of a place, at degree m
abbrev pub cell : ℕ → Place → Axis → ℤ
cell m q = λ b. floor_div m (q b)

-- Section 3.3: its remainder u
abbrev pub remainder : ℕ → Place → Axis → ℕ
remainder m q = λ b. floor_mod m (q b)

-- Section 3.3: g × k + w, axis by axis
abbrev pub composed : ℕ → (Axis → ℤ) → (Axis → ℕ) → Place
composed g k w = λ b. compose g (k b) (w b)

-- Section 3.4: the rule's right side at q, G(L(q)) − G(L(q) − (m−1)d), for G of degree g = m−1
abbrev pub rule_right : Direction → ℕ → Net → Place → ℤ
rule_right d g G q =
    pos (G (composed g (cell (suc g) q) (lowered d (remainder (suc g) q))))
    -ℤ pos (G (composed g (cell (suc g) q ⊖ d) (lowered d (remainder (suc g) q))))

-- Section 3.4: C obeys the rule with G at every place; G has the degree g = m−1, C the degree m
pub record Obeys (d : Direction) (g : ℕ) (G C : Net) : Type 0 where
  pub rule : (q : Place) → pos (C (q ⊕ d)) -ℤ pos (C q) ≡ rule_right d g G q

-- Section 3.4: far outside, a coordinate at n or above, or below −n
abbrev pub Far : ℕ → ℤ → Type 0
Far n (pos x) = n ≤ x
Far n (negsuc x) = n ≤ x

-- Section 3.4: zero far outside, at every place with a coordinate that far out
pub record ZeroFar (n : ℕ) (C : Net) : Type 0 where
  pub zero_far : (q : Place) (b : Axis) → Far n (q b) → C q ≡ 0

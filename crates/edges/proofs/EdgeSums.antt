-- Sums along a line from the box's edge.
use mathlib.Core.List.{List}
use mathlib.Core.Logic.{◌⊎◌, ⊎_elim}
use mathlib.Core.Path.{◌∙◌, ◌≡◌, ap, fun_ext}
use Prim.Native.Nat.{◌-◌, ◌<◌, ◌≤◌, min, suc, ℕ}
use native.Mathlib.Omega.{arith}
use lib.IntN.{◌+ℤ◌, pos, ℤ}
use lib.ListN.{get_or}
use Rattle.spline.specs.Box.{index}
use Rattle.spline.specs.Place.{Axis, Direction, Place, ◌⊖◌, a1, a2, a3, along, diagonal, moves, place}
use Rattle.spline.proofs.Coordinates.{down-sub, sub-inside}
use Rattle.edges.specs.Lines.{edge_sum, entry_at, line_sum, steps_to_edge}
use Rattle.shape.specs.Direction.{component}

min-pred : (a b : ℕ) → 1 ≤ a → 1 ≤ b → min a b ≡ suc (min (a - 1) (b - 1))
min-pred a b h k = omega arith

min-three : (a b c : ℕ) → 1 ≤ a → 1 ≤ b → 1 ≤ c
    → min a (min b c) ≡ suc (min (a - 1) (min (b - 1) (c - 1)))
min-three a b c h k l =
    let e = min-pred b c k l in
    let f : min b c - 1 ≡ min (b - 1) (c - 1) = omega arith in
    min-pred a (min b c) h (omega arith) ∙ ap (λ (n : ℕ). suc (min (a - 1) n)) f

module _ (d : Direction) (W : Axis → ℕ) (s : List ℤ) (x y z : ℕ) where
  abbrev q : Place
  q = place (pos x) (pos y) (pos z)

  abbrev entry : ℤ
  entry = get_or s (index W x y z) (pos 0)

  -- one step of e before the place is outside the box
  abbrev Leaves : Direction → Type 0
  Leaves e = (x < component e a1) ⊎ (y < component e a2) ⊎ (z < component e a3)

  -- that place, where it is in the box
  abbrev stepped : Direction → Place
  stepped e = place (pos (x - component e a1)) (pos (y - component e a2)) (pos (z - component e a3))

  -- one step of d before the place, where that is in the box
  pub step-inside : component d a1 ≤ x → component d a2 ≤ y → component d a3 ≤ z → q ⊖ d ≡ stepped d
  step-inside h1 h2 h3 = fun_ext axis
    where
      axis : (b : Axis) → (q ⊖ d) b ≡ stepped d b
      axis a1 = down-sub (moves d a1) x ∙ sub-inside x (component d a1) h1
      axis a2 = down-sub (moves d a2) y ∙ sub-inside y (component d a2) h2
      axis a3 = down-sub (moves d a3) z ∙ sub-inside z (component d a3) h3

  -- where one step of d before the place is still in the box, the sum is that up to there and the entry
  pub edge-inside : component d a1 ≤ x → component d a2 ≤ y → component d a3 ≤ z
      → edge_sum d W s q ≡ edge_sum d W s (stepped d) +ℤ entry
  unfolding edge_sum line_sum
  edge-inside h1 h2 h3 =
      ap (λ (n : ℕ). line_sum d (entry_at W s) n q) (steps d h1 h2 h3)
      ∙ ap (λ (p : Place). line_sum d (entry_at W s) (steps_to_edge d (stepped d)) p +ℤ entry)
      (step-inside h1 h2 h3)
    where
      steps : (e : Direction) → component e a1 ≤ x → component e a2 ≤ y → component e a3 ≤ z
          → steps_to_edge e q ≡ suc (steps_to_edge e (stepped e))
      steps (along a1) k1 k2 k3 = omega arith
      steps (along a2) k1 k2 k3 = omega arith
      steps (along a3) k1 k2 k3 = omega arith
      steps diagonal k1 k2 k3 = min-three x y z k1 k2 k3

  -- where it is outside, the sum is the entry
  pub edge-outside : Leaves d → edge_sum d W s q ≡ entry
  unfolding edge_sum line_sum
  edge-outside h = ap (λ (n : ℕ). line_sum d (entry_at W s) n q) (none d h)
    where
      none : (e : Direction) → Leaves e → steps_to_edge e q ≡ 0
      none (along a1) k = ⊎_elim (λ l. omega arith) (λ m. ⊎_elim (λ l. omega arith) (λ l. omega arith) m) k
      none (along a2) k = ⊎_elim (λ l. omega arith) (λ m. ⊎_elim (λ l. omega arith) (λ l. omega arith) m) k
      none (along a3) k = ⊎_elim (λ l. omega arith) (λ m. ⊎_elim (λ l. omega arith) (λ l. omega arith) m) k
      none diagonal k = ⊎_elim (λ l. omega arith) (λ m. ⊎_elim (λ l. omega arith) (λ l. omega arith) m) k

-- The sum back along the line obeys the step rule at every place, and is the only net that does so and is 0
-- far outside.
use mathlib.Core.Bool.{true}
use mathlib.Core.Path.{◌∙◌, ◌≡◌, ap, refl, subst, sym}
use Prim.Native.Nat.{◌+◌, ◌≤◌, suc, zero, ℕ}
use native.Mathlib.Omega.{arith}
use lib.IntN.{◌-ℤ◌, negsuc, pos, ℤ}
use Rattle.sums.proofs.Signed.{down, is-diff, is_pos, same, up}
use Rattle.spline.proofs.Steps.{back_if, lowered-back, telescope, ⊖⊕}
use Rattle.spline.specs.Build.{lowered_place, stepped}
use Rattle.spline.specs.Place.{Axis, Direction, Net, Place, ◌⊕◌, ◌⊖◌, a1, a2, a3}
use Rattle.spline.specs.Place.{along, diagonal, moves}
use Rattle.spline.specs.Rule.{Obeys, cell, composed, lowered, remainder}

-- ---- the rule with nothing subtracted
-- a − b = c − e, with nothing subtracted
module _ (a b c e : ℕ) where
  pub difference-sum : pos a -ℤ pos b ≡ pos c -ℤ pos e → a + e ≡ b + c
  difference-sum h =
      let l = is-diff (is_pos a) (is_pos b) in
      let r = is-diff (is_pos c) (is_pos e) in
      omega (arith, ap up h, ap down h)

  pub sum-difference : a + e ≡ b + c → pos a -ℤ pos b ≡ pos c -ℤ pos e
  sum-difference h = same (is-diff (is_pos a) (is_pos b)) (is-diff (is_pos c) (is_pos e)) (omega arith)

-- the step rule at q, with nothing subtracted
abbrev pub RuleAt : Direction → ℕ → Net → Net → Place → Type 0
RuleAt d g G C q =
    C (q ⊕ d) + G (composed g (cell (suc g) q ⊖ d) (lowered d (remainder (suc g) q)))
    ≡ C q + G (lowered_place d g q)

-- that it holds at every place is the rule
pub obeys-at : {d : Direction} {g : ℕ} {G C : Net} → Obeys d g G C → (q : Place) → RuleAt d g G C q
obeys-at o q = difference-sum _ _ _ _ (o.rule q)

pub at-obeys : {d : Direction} {g : ℕ} {G C : Net} → ((q : Place) → RuleAt d g G C q) → Obeys d g G C
at-obeys h = record { rule = λ q. sum-difference _ _ _ _ (h q) }

-- ---- the sum back obeys it
-- at every place
pub stepped-obeys : (d : Direction) (g : ℕ) (G : Net) → Obeys d g G (stepped d g G)
unfolding stepped
stepped-obeys d g G =
    at-obeys (λ q. rw (← lowered-back d g q) (telescope d (λ p. G (lowered_place d g p)) (suc g) q))

-- ---- no other net does
-- a number below −N
abbrev pub Below : ℕ → ℤ → Type 0
Below N (pos n) = ⊥
Below N (negsuc n) = N ≤ n

-- a net that is 0 where a coordinate is below −N
pub record Vanishes (N : ℕ) (C : Net) : Type 0 where
  pub far : (q : Place) (b : Axis) → Below N (q b) → C q ≡ 0

back-neg : (n k : ℕ) → back_if n true (negsuc k) ≡ negsuc (k + n)
back-neg zero k = ap negsuc (omega arith)
back-neg (suc n) k = back-neg n (suc k) ∙ ap negsuc (omega arith)

-- enough steps back lead below −N
reach : (N : ℕ) (z : ℤ) → (n : ℕ) × Below N (back_if n true z)
reach N (pos zero) = (suc N, subst (Below N) (sym (back-neg N zero)) (omega arith))
reach N (pos (suc n)) =
    let r : (n₁ : ℕ) × Below N (back_if n₁ true (pos n)) = reach N (pos n) in
    (suc r.0, r.1)
reach N (negsuc k) = (N, subst (Below N) (sym (back-neg N k)) (omega arith))

-- an axis that the direction moves on
abbrev main : Direction → Axis
main (along a) = a
main diagonal = a1

hit-main : (d : Direction) → moves d (main d) ≡ true
hit-main (along a1) = refl
hit-main (along a2) = refl
hit-main (along a3) = refl
hit-main diagonal = refl

module _ (d : Direction) (g : ℕ) (G C C' : Net) (o : Obeys d g G C) (o' : Obeys d g G C')
    (N : ℕ) (v : Vanishes N C) (v' : Vanishes N C') where
  -- from n steps back, where both are 0, up to q
  climb : (n : ℕ) (q : Place) → Below N (back_if n (moves d (main d)) (q (main d))) → C q ≡ C' q
  climb zero q h = v.far q (main d) h ∙ sym (v'.far q (main d) h)
  climb (suc n) q h = omega (arith, climb n p h, r, r')
    where
      p : Place
      p = q ⊖ d

      behind : Place
      behind = composed g (cell (suc g) p ⊖ d) (lowered d (remainder (suc g) p))

      r : C q + G behind ≡ C p + G (lowered_place d g p)
      r = rw (⊖⊕ q d) at (obeys-at o p)

      r' : C' q + G behind ≡ C' p + G (lowered_place d g p)
      r' = rw (⊖⊕ q d) at (obeys-at o' p)

  -- two nets that obey the rule with one net, and are 0 far below, are equal
  pub unique : (q : Place) → C q ≡ C' q
  unique q =
      let r : (n : ℕ) × Below N (back_if n true (q (main d))) = reach N (q (main d)) in
      climb r.0 q (rw (hit-main d) r.1)

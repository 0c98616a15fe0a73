-- The difference at a place of the box, in natural numbers.
use mathlib.Core.Path.{◌∙◌, ◌≡◌, ap, ap₂, fun_ext, refl, sym}
use Prim.Native.Nat.{◌%◌, ◌*◌, ◌+◌, ◌-◌, ◌/◌, ◌≤◌, suc, ℕ}
use native.Mathlib.Nat.{mod-lt, zero-lt-suc}
use native.Mathlib.Omega.{arith}
use lib.IntN.{◌-ℤ◌, pos, sub_ℕ}
use Rattle.spline.proofs.Lowering.{below_stays, lowered-whole-back}
use Rattle.spline.proofs.Steps.{back, lowered-back}
use Rattle.spline.specs.Build.{lowered_place}
use Rattle.spline.specs.Place.{Axis, Direction, Net, Place, ◌⊖◌, a1, a2, a3, along, diagonal, moves, place}
use Rattle.spline.specs.Rule.{cell, composed, lower_above, lowered, remainder}
use Rattle.spline.proofs.Coordinates.{back-all, back-both, down-cell}
use Rattle.cells.specs.Coordinates.{lowered_coordinate, pivot_of}
use Rattle.differences.specs.Pass.{difference}
use Rattle.shape.specs.Direction.{component}

-- the pivot lowers as the rule does
lowered-pivot : (d : Direction) (g : ℕ) (u : Axis → ℕ) → ((b : Axis) → u b ≤ g) → (b : Axis)
    → lowered d u b ≡ lower_above (pivot_of d (u a1) (u a2) (u a3) (suc g)) (u b)
lowered-pivot (along a1) g u h b = refl
lowered-pivot (along a2) g u h b = refl
lowered-pivot (along a3) g u h b = refl
lowered-pivot diagonal g u h b = sym (below_stays (suc g) (u b) (omega (arith, h b)))

module _ (d : Direction) (g : ℕ) (X : Axis → ℕ) where
  abbrev pivot : ℕ
  pivot = pivot_of d (X a1 % suc g) (X a2 % suc g) (X a3 % suc g) (suc g)

  abbrev natural : (Axis → ℕ) → Place
  natural n = λ b. pos (n b)

  abbrev low : Axis → ℕ
  low b = lowered_coordinate g pivot (X b)

  remainder-le : (b : Axis) → X b % suc g ≤ g
  remainder-le b = omega (arith, mod-lt (X b) (zero-lt-suc g))

  -- the lowered place of a natural place
  lowered-natural : lowered_place d g (natural X) ≡ natural low
  unfolding lowered_coordinate
  lowered-natural =
      fun_ext (λ b. ap (λ (w : ℕ). pos (g * (X b / suc g) + w))
      (lowered-pivot d g (λ c. X c % suc g) remainder-le b))

-- ---- the difference at (x, y, z)
module _ (d : Direction) (g : ℕ) (G : Net) (x y z : ℕ) where
  abbrev q : Place
  q = place (pos x) (pos y) (pos z)

  -- the place a cell up and a step of d back
  abbrev up : Axis → ℕ
  up a1 = x + suc g - component d a1
  up a2 = y + suc g - component d a2
  up a3 = z + suc g - component d a3

  -- its lowered coordinates
  abbrev pub lows : Axis → ℕ
  lows = low d g up

  back-cell : q ⊖ d ≡ back diagonal (suc g) (λ b. pos (up b))
  back-cell = fun_ext axis
    where
      axis : (b : Axis) → (q ⊖ d) b ≡ back diagonal (suc g) (λ b. pos (up b)) b
      axis a1 = down-cell g x (moves d a1)
      axis a2 = down-cell g y (moves d a2)
      axis a3 = down-cell g z (moves d a3)

  lowered-near : lowered_place d g (q ⊖ d) ≡ back diagonal g (λ b. pos (lows b))
  lowered-near =
      ap (lowered_place d g) back-cell
      ∙ lowered-whole-back d diagonal g (λ b. pos (up b))
      ∙ ap (back diagonal g) (lowered-natural d g up)

  abbrev near-place : Place
  near-place = place (sub_ℕ (lows a1) g) (sub_ℕ (lows a2) g) (sub_ℕ (lows a3) g)

  near : lowered_place d g (q ⊖ d) ≡ near-place
  near = lowered-near ∙ fun_ext axis
    where
      axis : (b : Axis) → back diagonal g (λ b. pos (lows b)) b ≡ near-place b
      axis a1 = back-all g (lows a1)
      axis a2 = back-all g (lows a2)
      axis a3 = back-all g (lows a3)

  abbrev far-place : Place
  far-place =
      place (sub_ℕ (lows a1) (g + g * component d a1)) (sub_ℕ (lows a2) (g + g * component d a2))
      (sub_ℕ (lows a3) (g + g * component d a3))

  far : composed g (cell (suc g) (q ⊖ d) ⊖ d) (lowered d (remainder (suc g) (q ⊖ d))) ≡ far-place
  far =
      sym (lowered-back d g (q ⊖ d))
      ∙ lowered-whole-back d d g (q ⊖ d)
      ∙ ap (back d g) lowered-near
      ∙ fun_ext axis
    where
      axis : (b : Axis) → back d g (back diagonal g (λ b. pos (lows b))) b ≡ far-place b
      axis a1 = back-both g (lows a1) (moves d a1)
      axis a2 = back-both g (lows a2) (moves d a2)
      axis a3 = back-both g (lows a3) (moves d a3)

  -- it is that of the numbers g before the lowered coordinates, and g steps of d before there
  pub difference-is : difference d g G q ≡ pos (G near-place) -ℤ pos (G far-place)
  difference-is = ap₂ (λ (p r : Place). pos (G p) -ℤ pos (G r)) near far

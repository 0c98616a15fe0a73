-- The difference at a place of the box, from the lowered coordinates one step of the direction before it.
use mathlib.Core.Bool.{Bool, cond, false, true}
use mathlib.Core.List.{List}
use mathlib.Core.Path.{◌∙◌, ◌≡◌, ap, ap₂, refl, sym}
use Prim.Native.Nat.{◌%◌, ◌*◌, ◌+◌, ◌-◌, ◌≤◌, suc, zero, ℕ}
use native.Mathlib.Nat.{le_refl}
use native.Mathlib.Omega.{arith}
use lib.IntN.{pos, sub_ℕ}
use Rattle.sums.proofs.Signed.{is_pos, is-sub, same}
use Rattle.spline.specs.Box.{spread}
use Rattle.spline.specs.Build.{direction}
use Rattle.spline.specs.Place.{Axis, Direction, a1, a2, a3, along, diagonal, moves, place}
use Rattle.cells.proofs.RunningCells.{lowered-low, lowered-top, lowered-up, remainder-up, whole}
use Rattle.spline.proofs.Coordinates.{place-cong}
use Rattle.differences.proofs.LoweredPlaces.{difference-is, lows}
use Rattle.cells.specs.Coordinates.{lowered_coordinate, near_coordinate, pivot_of}
use Rattle.differences.specs.Inner.Rows.{between, step_difference}
use Rattle.differences.specs.Pass.{difference, wrapped}
use Rattle.shape.specs.Direction.{component}
use Rattle.shape.specs.declared.Vector.{Vector}

-- ---- one axis, along which the direction moves or not
-- the lowered coordinate a cell up is g above the near one
near_up : (g p q : ℕ) (h : Bool) → g * cond h 1 0 ≤ lowered_coordinate g p (q + g * cond h 1 0)
    → lowered_coordinate g p (q + suc g - cond h 1 0) ≡ near_coordinate g p (g * cond h 1 0) q + g
near_up g p q true l =
    let e : q + suc g - 1 ≡ q + g * 1 = omega arith in
    ap (lowered_coordinate g p) e ∙ omega arith
near_up g p q false l =
    let e : q + suc g - 0 ≡ q + g * 0 + suc g = omega arith in
    ap (lowered_coordinate g p) e
    ∙ lowered-up g p (q + g * 0)
    ∙ omega arith

-- and the remainder is the same
same-remainder : (g q : ℕ) (h : Bool) → (q + suc g - cond h 1 0) % suc g ≡ (q + g * cond h 1 0) % suc g
same-remainder g q true =
    let e : q + suc g - 1 ≡ q + g * 1 = omega arith in
    ap (λ (n : ℕ). n % suc g) e
same-remainder g q false =
    let e : q + suc g - 0 ≡ q + g * 0 + suc g = omega arith in
    ap (λ (n : ℕ). n % suc g) e ∙ remainder-up g (q + g * 0)

-- a coordinate that is a + g, less g
pub sub-near : (a g n : ℕ) → n ≡ a + g → sub_ℕ n g ≡ pos a
sub-near a g n e = same (is-sub n g) (is_pos a) (omega arith)

-- and less a step t more
sub-far : (a g n t : ℕ) → n ≡ a + g → sub_ℕ n (g + t) ≡ sub_ℕ a t
sub-far a g n t e = same (is-sub n (g + t)) (is-sub a t) (omega arith)

-- ---- the pivot
-- direction 4 lowers none, so the highest remainder serves as its pivot
top-pivot : (d : Direction) (g u1 u2 u3 n : ℕ)
    → lowered_coordinate g (pivot_of d u1 u2 u3 (suc g)) n ≡ lowered_coordinate g (pivot_of d u1 u2 u3 g) n
top-pivot (along a1) g u1 u2 u3 n = refl
top-pivot (along a2) g u1 u2 u3 n = refl
top-pivot (along a3) g u1 u2 u3 n = refl
top-pivot diagonal g u1 u2 u3 n = lowered-top g n

-- no direction but 1 compares with the remainder on the first axis
pub pivot-others : (k u1 u2 u3 m : ℕ) → (k ≡ 1 → ⊥)
    → pivot_of (direction k) 0 u2 u3 m ≡ pivot_of (direction k) u1 u2 u3 m
pivot-others zero u1 u2 u3 m h = refl
pivot-others (suc zero) u1 u2 u3 m h = absurd (h refl)
pivot-others (suc (suc zero)) u1 u2 u3 m h = refl
pivot-others (suc (suc (suc zero))) u1 u2 u3 m h = refl
pivot-others (suc (suc (suc (suc k)))) u1 u2 u3 m h = refl

-- the vector of a direction, g times
abbrev pub step_of : Direction → ℕ → Vector
step_of d g = record { x = g * component d a1; y = g * component d a2; z = g * component d a3 }

-- the coordinates that the cells are shifted from
abbrev pub shifted : Direction → ℕ → ℕ → ℕ → ℕ → Axis → ℕ
shifted d g x y z a1 = x + g * component d a1
shifted d g x y z a2 = y + g * component d a2
shifted d g x y z a3 = z + g * component d a3

-- the pivot of their remainders
abbrev pub pivot : Direction → ℕ → ℕ → ℕ → ℕ → ℕ
pivot d g x y z =
    let u : Axis → ℕ = λ b. shifted d g x y z b % suc g in
    pivot_of d (u a1) (u a2) (u a3) g

-- it is a remainder
pub pivot-le : (d : Direction) (g x y z : ℕ) → pivot d g x y z ≤ g
pivot-le (along a1) g x y z = (whole g (x + g * 1)).1
pivot-le (along a2) g x y z = (whole g (y + g * 1)).1
pivot-le (along a3) g x y z = (whole g (z + g * 1)).1
pivot-le diagonal g x y z = le_refl g

moved : (g p q : ℕ) → (q + g * 1) % suc g ≤ p → g * 1 ≤ lowered_coordinate g p (q + g * 1)
moved g p q l = omega (arith, lowered-low g p (q + g * 1) (omega arith) l)

-- one step before the place is no further than one cell below the box
pub reaches : (d : Direction) (g x y z : ℕ) (b : Axis)
    → g * component d b ≤ lowered_coordinate g (pivot d g x y z) (shifted d g x y z b)
reaches (along a1) g x y z a1 = moved g _ x (le_refl _)
reaches (along a1) g x y z a2 = omega arith
reaches (along a1) g x y z a3 = omega arith
reaches (along a2) g x y z a1 = omega arith
reaches (along a2) g x y z a2 = moved g _ y (le_refl _)
reaches (along a2) g x y z a3 = omega arith
reaches (along a3) g x y z a1 = omega arith
reaches (along a3) g x y z a2 = omega arith
reaches (along a3) g x y z a3 = moved g _ z (le_refl _)
reaches diagonal g x y z a1 = moved g g x (whole g (x + g * 1)).1
reaches diagonal g x y z a2 = moved g g y (whole g (y + g * 1)).1
reaches diagonal g x y z a3 = moved g g z (whole g (z + g * 1)).1

-- ---- the difference at (x, y, z)
module _ (d : Direction) (g : ℕ) (W : Axis → ℕ) (s : List ℕ) (x y z : ℕ) where
  abbrev p : ℕ
  p = pivot d g x y z

  abbrev at : Axis → ℕ
  at a1 = x
  at a2 = y
  at a3 = z

  abbrev near : Axis → ℕ
  near b = near_coordinate g p (g * component d b) (at b)

  -- the coordinates a cell up and a step of d back
  abbrev up : Axis → ℕ
  up b = at b + suc g - component d b

  -- their pivot lowers as that of the shifted ones
  lows-pivot : (n : ℕ)
      → lowered_coordinate g (pivot_of d (up a1 % suc g) (up a2 % suc g) (up a3 % suc g) (suc g)) n
      ≡ lowered_coordinate g p n
  lows-pivot n =
      let u : Axis → ℕ = λ b. shifted d g x y z b % suc g in
      rw (same-remainder g x (moves d a1), same-remainder g y (moves d a2), same-remainder g z (moves d a3))
      (top-pivot d g (u a1) (u a2) (u a3) n)

  lows-are : (b : Axis) → lows d g (spread W s) x y z b ≡ near b + g
  lows-are a1 = lows-pivot (up a1) ∙ near_up g p x (moves d a1) (reaches d g x y z a1)
  lows-are a2 = lows-pivot (up a2) ∙ near_up g p y (moves d a2) (reaches d g x y z a2)
  lows-are a3 = lows-pivot (up a3) ∙ near_up g p z (moves d a3) (reaches d g x y z a3)

  -- the difference at (x, y, z) is that of the lowered coordinates one step before it
  pub difference-near : step_difference W s (step_of d g) (near a1) (near a2) (near a3)
      ≡ wrapped (difference d g (spread W s) (place (pos x) (pos y) (pos z)))
  difference-near =
      let one = place-cong (sub-near (near a1) g _ (lows-are a1)) (sub-near (near a2) g _ (lows-are a2))
      (sub-near (near a3) g _ (lows-are a3)) in
      let other = place-cong (sub-far (near a1) g _ (g * component d a1) (lows-are a1))
      (sub-far (near a2) g _ (g * component d a2) (lows-are a2))
      (sub-far (near a3) g _ (g * component d a3) (lows-are a3)) in
      sym (ap wrapped (difference-is d g (spread W s) x y z) ∙ ap₂ (between W s) one other)

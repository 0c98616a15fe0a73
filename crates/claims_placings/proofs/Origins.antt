-- What a placing takes up of the coordinates and of the origin: their difference on each axis.
use mathlib.Core.Bool.{◌&&◌, and-false, false}
use mathlib.Core.Logic.{◌⊎◌, inl, inr}
use mathlib.Core.Path.{◌≡◌, refl}
use Prim.Native.Nat.{◌+◌, ℕ}
use native.Mathlib.Omega.{arith}
use lib.IntN.{◌*ℤ◌, ◌+ℤ◌, ◌-ℤ◌, nat_abs, negsuc, pos, ℤ}
use lib.Signed.{◌<ℤ◌, clash_ℤ, non_neg}
use Rattle.sums.proofs.Signed.{Is, down, is-add, is-diff, is_mul, is_pos, le_is, own, same, up}
use Rattle.unit.specs.Unit.{net_of, sizes}
use Rattle.unit.specs.declared.Unit.{Unit}
use Rattle.coordinates.specs.Coordinates.{sign_check, from_origin}
use Rattle.cell_checks.specs.Inside.{cell_check}
use Rattle.axis_order.specs.declared.Placing.{Placing}
use Rattle.placing.specs.Place.{inside_check, place_answer, position_checks}
use Rattle.placing.specs.Placing.{block_cells, block_placing, placing}
use Rattle.claims_placings.specs.Origins.{AtZero, BeforeOrigin, EmptyAtZero, moved_by, shifted}
use Rattle.checks.specs.Checks.{Checked, and_then}

-- ---- by what is read of the coordinates

three : {A : Type 0} (f : ℤ → ℤ → ℤ → A) {x₁ x₂ y₁ y₂ z₁ z₂ : ℤ} → x₁ ≡ x₂ → y₁ ≡ y₂ → z₁ ≡ z₂
    → f x₁ y₁ z₁ ≡ f x₂ y₂ z₂
three f ex ey ez = rw (ex, ey, ez) refl

-- check 12 and the placing, by three coordinates that were read from the origin
abbrev inside_by : Unit → ℕ → ℤ → ℤ → ℤ → Checked
inside_by u D x y z =
    and_then (sign_check x y z)
    (cell_check (net_of u) (sizes u) (block_cells u (nat_abs x) (nat_abs y) (nat_abs z) D))

abbrev placing_by : Unit → ℕ → ℤ → ℤ → ℤ → Placing
placing_by u D x y z = block_placing u (nat_abs x) (nat_abs y) (nat_abs z) D

-- ---- an origin of 0

read-zero : (x : ℕ) {o : ℤ} (D : ℕ) → o ≡ pos 0 → from_origin (pos x) o D ≡ pos x
unfolding from_origin
read-zero x D e =
    rw e (same (is-diff (is_pos x) (is_mul (is_pos 0) (is_pos D))) (is_pos x) (omega arith))

module _ (u : Unit) (zero : AtZero u) (x y z D : ℕ) where
  -- so check 12 is that of the coordinates themselves
  pub zero-inside : inside_check u (pos x) (pos y) (pos z) D
      ≡ cell_check (net_of u) (sizes u) (block_cells u x y z D)
  unfolding inside_check sign_check
  zero-inside =
      three (inside_by u D) (read-zero x D zero.first) (read-zero y D zero.second)
      (read-zero z D zero.third)

  -- and so is the placing
  pub zero-placing : placing u (pos x) (pos y) (pos z) D ≡ block_placing u x y z D
  unfolding placing
  zero-placing =
      three (placing_by u D) (read-zero x D zero.first) (read-zero y D zero.second)
      (read-zero z D zero.third)

pub empty-at-zero : EmptyAtZero
empty-at-zero = record { first = refl; second = refl; third = refl }

-- ---- another origin

from-moved : (x o d : ℤ) (D : ℕ) → from_origin (shifted x d D) (o +ℤ d) D ≡ from_origin x o D
unfolding from_origin
from-moved x o d D =
    same
    (is-diff (is-add (own x) (is_mul (own d) (is_pos D))) (is_mul (is-add (own o) (own d)) (is_pos D)))
    (is-diff (own x) (is_mul (own o) (is_pos D)))
    (omega arith)

module _ (u : Unit) (d1 d2 d3 x y z : ℤ) (D : ℕ) where
  abbrev there : Unit
  there = moved_by u d1 d2 d3

  -- each coordinate is read as before
  moved1 : from_origin (shifted x d1 D) there.o1 D ≡ from_origin x u.o1 D
  moved1 = from-moved x u.o1 d1 D

  moved2 : from_origin (shifted y d2 D) there.o2 D ≡ from_origin y u.o2 D
  moved2 = from-moved y u.o2 d2 D

  moved3 : from_origin (shifted z d3 D) there.o3 D ≡ from_origin z u.o3 D
  moved3 = from-moved z u.o3 d3 D

  -- so check 12 lets the same points pass
  pub inside-moved : inside_check there (shifted x d1 D) (shifted y d2 D) (shifted z d3 D) D
      ≡ inside_check u x y z D
  unfolding inside_check
  inside-moved = three (inside_by u D) moved1 moved2 moved3

  -- and they are placed alike
  pub placing-moved : placing there (shifted x d1 D) (shifted y d2 D) (shifted z d3 D) D ≡ placing u x y z D
  unfolding placing
  placing-moved = three (placing_by u D) moved1 moved2 moved3

-- ---- before the origin

before : (x o : ℤ) (D : ℕ) → x <ℤ (o *ℤ pos D) → non_neg (from_origin x o D) ≡ false
unfolding from_origin
before x o D h = go (x -ℤ o *ℤ pos D) (is-diff (own x) (own (o *ℤ pos D)))
  where
    go : (t : ℤ) → Is t (up x + down (o *ℤ pos D)) (down x + up (o *ℤ pos D)) → non_neg t ≡ false
    go (pos t) e = clash_ℤ h (le_is (own (o *ℤ pos D)) (own x) (omega (arith, e.is)))
    go (negsuc t) e = refl

pub before-origin : BeforeOrigin
unfolding place_answer position_checks inside_check sign_check
before-origin u x y z D unit divisor h = simp (unit, divisor, some h)
  where
    some : (x <ℤ (u.o1 *ℤ pos D)) ⊎ ((y <ℤ (u.o2 *ℤ pos D)) ⊎ (z <ℤ (u.o3 *ℤ pos D)))
        → (non_neg (from_origin x u.o1 D) && non_neg (from_origin y u.o2 D)
        && non_neg (from_origin z u.o3 D))
        ≡ false
    some (inl l) = simp (before x u.o1 D l)
    some (inr (inl l)) = simp (before y u.o2 D l, and-false (non_neg (from_origin x u.o1 D)))
    some (inr (inr l)) =
        simp (before z u.o3 D l)
        (and-false (non_neg (from_origin x u.o1 D) && non_neg (from_origin y u.o2 D)))

-- Coordinates as the machine holds them: read into 64 bits, and handed on.
use mathlib.Core.Bool.{true}
use mathlib.Core.Path.{◌∙◌, ◌≡◌, refl}
use Prim.Native.Nat.{◌≤◌, ℕ}
use native.Mathlib.Omega.{arith}
use lib.Dec.{T}
use lib.IntN.{nat_abs, ℤ}
use lib.Signed.{non_neg}
use mir.Facts.{to_z-of_z}
use mir.Syntax.{w16, w32, w64}
use mir.Val.{Fits, SFits, of_z, to_z}
use Rattle.sums.proofs.MachineSizes.{fits}
use Rattle.coordinates.specs.Coordinates.{from_origin}

-- a coordinate that was read into 64 bits, and that 32 hold where it is not negative
pub record ReadAs (x o : ℤ) (D : ℕ) (r : ℤ) : Type 0 where
  pub is : to_z w64 (of_z w64 r) ≡ from_origin x o D
  pub small : nat_abs (from_origin x o D) ≤ 4294967295

pub read_as : {x o r : ℤ} (D : ℕ) → SFits w32 x → SFits w16 o
    → r ≡ from_origin (to_z w32 (of_z w32 x)) (to_z w16 (of_z w16 o)) D → nat_abs r ≤ 4294967295 → ReadAs x o D r
read_as {x} {o} {r} D fx fo e small =
    let same : r ≡ from_origin x o D = e ∙ rw (to_z-of_z fx, to_z-of_z fo) refl in
    record { is = to_z-of_z (fits w64 r (omega (arith, small))) ∙ same; small = rw same at small }

pub casts-down : {x o r : ℤ} {D : ℕ} → ReadAs x o D r → non_neg (from_origin x o D) ≡ true
    → T (non_neg (to_z w64 (of_z w64 r))) × Fits w32 (nat_abs (to_z w64 (of_z w64 r)))
casts-down a sign = rw (a.is, sign) (tt, record { fits = omega (arith, a.small) })

-- three equal things make equal things
pub alike : {A B : Type 0} (f : B → B → B → A) {a b c x y z : B} → a ≡ x → b ≡ y → c ≡ z
    → f a b c ≡ f x y z
alike f ea eb ec = rw (ea, eb, ec) refl

-- coordinates that a call hands on are as they were
pub handed-on : {A : Type 0} (f : ℤ → ℤ → ℤ → A) {x y z : ℤ} → SFits w32 x → SFits w32 y → SFits w32 z
    → f (to_z w32 (of_z w32 x)) (to_z w32 (of_z w32 y)) (to_z w32 (of_z w32 z)) ≡ f x y z
handed-on f fx fy fz = alike f (to_z-of_z fx) (to_z-of_z fy) (to_z-of_z fz)

-- A coordinate, read from the origin of its axis.
use mathlib.Core.Bool.{◌&&◌, and-eq-true_iff, false, true}
use mathlib.Core.Path.{◌≡◌, refl, sym}
use Prim.Native.Nat.{◌*◌, ◌≤◌, ℕ}
use native.Mathlib.Nat.{mul-le-mul_right}
use native.Mathlib.Omega.{arith}
use borrow.Author.Tests.{ltb-true, not-false}
use lib.IntN.{+ℤ-neg_ℤ_cancel, ◌*ℤ◌, ◌+ℤ◌, nat_abs, negsuc, pos, ℤ}
use lib.Signed.{lt_z, non_neg}
use Rattle.sums.proofs.Signed.{abs_diff, abs-mul}
use Rattle.checks.proofs.Checks.{if-passed}
use Rattle.coordinates.specs.Coordinates.{farthest_over, from_origin, sign_check}
use Rattle.checks.specs.Checks.{no_refusal}
use Rattle.checks.specs.declared.Refusal.TheVariants.{Outside}

-- what lies t past the origin is read as t
pub read_past : (t : ℕ) (o : ℤ) (D : ℕ) → from_origin (pos t +ℤ o *ℤ pos D) o D ≡ pos t
unfolding from_origin
read_past t o D = +ℤ-neg_ℤ_cancel (pos t) (o *ℤ pos D)

-- how far an origin of 16 bits may lie
pub origin-small : (o : ℤ) (D : ℕ) → nat_abs o ≤ 32768 → nat_abs (o *ℤ pos D) ≤ 32768 * D
origin-small o D ho = rw (abs-mul o (pos D)) (mul-le-mul_right D ho)

-- how far a coordinate of 32 bits may be read to lie
pub read_small : (x o : ℤ) (D : ℕ) → nat_abs x ≤ 2147483648 → nat_abs o ≤ 32768
    → nat_abs (from_origin x o D) ≤ farthest_over D
unfolding from_origin
read_small x o D hx ho =
    let size = abs_diff x (o *ℤ pos D) in
    let shift = origin-small o D ho in
    omega arith

-- ---- the sign

pub negative : (z : ℤ) → lt_z z (pos 0) ≡ true → non_neg z ≡ false
negative (pos n) h = absurd (omega (arith, ltb-true n 0 h))
negative (negsuc n) h = refl

pub not_negative : (z : ℤ) → lt_z z (pos 0) ≡ false → non_neg z ≡ true
not_negative (pos n) h = refl
not_negative (negsuc n) h = sym h

-- of three coordinates none is negative where 12 lets them pass
pub record NoneNegative (x y z : ℤ) : Type 0 where
  pub first : non_neg x ≡ true
  pub second : non_neg y ≡ true
  pub third : non_neg z ≡ true

pub signs-passed : (x y z : ℤ) → sign_check x y z ≡ no_refusal → NoneNegative x y z
unfolding sign_check
signs-passed x y z h =
    let all = (and-eq-true_iff (non_neg x && non_neg y) (non_neg z)).0 (not-false _ (if-passed Outside _ _ h).0) in
    let two = (and-eq-true_iff (non_neg x) (non_neg y)).0 all.0 in
    record { first = two.0; second = two.1; third = all.1 }

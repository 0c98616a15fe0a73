-- Machine integers by their sizes.
use mathlib.Core.Path.{◌≡◌}
use Prim.Native.Nat.{◌*◌, ◌<◌, ◌^◌, ◌≤◌, ℕ}
use native.Mathlib.Nat.{lt_of_le_of_lt}
use native.Mathlib.Omega.{arith}
use lib.IntN.{◌*ℤ◌, nat_abs, pos, ℤ}
use lib.Signed.{nat_abs-le}
use mir.Facts.{to_z-of_z, to_z_pos}
use mir.Syntax.{Width}
use mir.Val.{SFits, hbits, of_z, to_z}
use Rattle.sums.proofs.Signed.{abs-mul, mag-le}

-- a number fits by its size
pub fits : (w : Width) (z : ℤ) → nat_abs z < 2 ^ hbits w → SFits w z
fits w z h = record { sfits = lt_of_le_of_lt (mag-le z) h }

-- and has a size where it fits
pub fits-size : (w : Width) (z : ℤ) → SFits w z → nat_abs z ≤ 2 ^ hbits w
fits-size w z f = nat_abs-le z f.sfits

-- the product of a signed number and a natural
module _ (w : Width) (v : ℤ) (u : ℕ)
    (hv : nat_abs v < 2 ^ hbits w) (hu : u < 2 ^ hbits w) (h : nat_abs v * u < 2 ^ hbits w) where
  -- it fits by its size
  pub mul-fits : SFits w (to_z w (of_z w v) *ℤ to_z w u)
  mul-fits =
      let e = abs-mul v (pos u) in
      rw (to_z-of_z (fits w v hv), to_z_pos w {n = u} hu) (fits w (v *ℤ pos u) (omega arith))

  -- and is read as it is
  pub mul-read : to_z w (of_z w (to_z w (of_z w v) *ℤ to_z w u)) ≡ v *ℤ pos u
  mul-read =
      let e = abs-mul v (pos u) in
      rw (to_z-of_z (fits w v hv), to_z_pos w {n = u} hu) (to_z-of_z (fits w (v *ℤ pos u) (omega arith)))

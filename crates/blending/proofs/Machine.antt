-- Sums of signed numbers of 64 bits by their sizes, and how large a correction is.
use mathlib.Core.Bool.{false}
use mathlib.Core.Logic.{◌≢◌}
use mathlib.Core.Path.{◌≡◌}
use Prim.Native.Nat.{◌+◌, ◌<◌, ◌^◌, ◌≤◌}
use native.Mathlib.Omega.{arith}
use borrow.Author.Tests.{eqb-false}
use lib.IntN.{◌+ℤ◌, nat_abs, negsuc, pos, ℤ}
use mir.Facts.{to_z-of_z}
use mir.Syntax.{w16, w64}
use mir.Val.{SFits, of_z, to_z}
use Rattle.sums.proofs.MachineSizes.{fits}
use Rattle.sums.proofs.Signed.{abs-add}
use Rattle.unit.specs.Gaps.{is_gap}

module _ (a b : ℤ) (h : nat_abs a + nat_abs b < 2 ^ 63) where
  -- the sum fits, and is read as it is
  pub add-fits : SFits w64 (to_z w64 (of_z w64 a) +ℤ b)
  add-fits = let s = abs-add a b in rw (to_z-of_z (fits w64 a (omega arith))) (fits w64 (a +ℤ b) (omega arith))

  -- and reading it back gives the sum
  pub add_read : to_z w64 (of_z w64 (to_z w64 (of_z w64 a) +ℤ b)) ≡ a +ℤ b
  add_read =
      let s = abs-add a b in
      rw (to_z-of_z (fits w64 a (omega arith))) (to_z-of_z (fits w64 (a +ℤ b) (omega arith)))

-- a correction that is no gap is at most 32767 in size
pub measured-size : (z : ℤ) → SFits w16 z → is_gap z ≡ false → nat_abs z ≤ 32767
measured-size (pos n) f e = let h = f.sfits in omega arith
measured-size (negsuc n) f e = let h = f.sfits in let k : n ≢ 32767 = eqb-false n 32767 e in omega arith

-- Laws of two's complement.
use mathlib.Core.Path.{◌∙◌, ◌≡◌}
use Prim.Native.Nat.{◌-◌, ◌<◌, ◌≤◌, suc, ℕ}
use borrow.Author.Rules.{sfits_of}
use borrow.Author.Tests.{le-ltb, lt-ltb}
use lib.IntN.{◌-ℤ◌, negsuc, pos, ℤ}
use lib.Signed.{mag}
use mir.Facts.{to_z-of_z}
use mir.Syntax.{w16}
use mir.Val.{of_z, to_z}
use Rattle.file.specs.File.{signed}

-- a signed number of 16 bits, read back from them
pub read_back : {z y : ℤ} → mag z < 32768 → z ≡ y → to_z w16 (of_z w16 z) ≡ y
read_back h e = to_z-of_z {w = w16} (sfits_of h) ∙ e

-- the lower half stands for itself
pub signed_low : (w : ℕ) → w < 32768 → signed w ≡ pos w
unfolding signed
signed_low w h = simp (lt-ltb w 32768 h)

-- the upper half for negative numbers
pub signed_high : (w : ℕ) → 32768 ≤ w → signed w ≡ pos w -ℤ pos 65536
unfolding signed
signed_high w h = simp (le-ltb w 32768 h)

-- 65536 less than a number below it
pub less-65536 : (w : ℕ) → w < 65536 → pos w -ℤ pos 65536 ≡ negsuc (65536 - suc w)
less-65536 w h = simp (lt-ltb w 65536 h)

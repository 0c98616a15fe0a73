-- The 16 bits of a signed number.
use mathlib.Core.Path.{◌∙◌, ◌≡◌, ap}
use Prim.Native.Nat.{◌-◌, ◌<◌, suc}
use native.Mathlib.Omega.{arith}
use lib.IntN.{negsuc, pos, ℤ}
use lib.Signed.{mag}
use Rattle.file.proofs.Twos.{less-65536, signed_high, signed_low}
use Rattle.file.specs.File.{signed}
use Rattle.encoding.specs.Encoding.{bits}

-- the bits of a number, read back
pub signed-bits : (z : ℤ) → mag z < 32768 → signed (bits z) ≡ z
unfolding bits
signed-bits (pos k) h = signed_low k h
signed-bits (negsuc k) h =
    let e : 65536 - suc (65536 - suc k) ≡ k = omega arith in
    signed_high (65536 - suc k) (omega arith) ∙ less-65536 (65536 - suc k) (omega arith) ∙ ap negsuc e

-- the bits are 16
pub bits_below : (z : ℤ) → mag z < 32768 → bits z < 65536
unfolding bits
bits_below (pos k) h = omega arith
bits_below (negsuc k) h = omega arith

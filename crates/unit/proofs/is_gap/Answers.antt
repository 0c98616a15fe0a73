-- −32768 is told by its 16 bits.
use mathlib.Core.Bool.{Bool, false, true}
use mathlib.Core.Path.{◌≡◌, refl}
use Prim.Native.Nat.{◌-◌, ◌<◌, suc, ℕ}
use native.Mathlib.Omega.{arith}
use borrow.Author.Tests.{eq-eqb, eqb-false, eqb-true, ne_eqb}
use lib.Dec.{eqb}
use lib.IntN.{negsuc, pos, ℤ}
use mir.Syntax.{w16}
use mir.Val.{SFits, of_z}
use Rattle.unit.specs.Gaps.{is_gap}
use Rattle.unit.proofs.is_gap.Goals as goal

-- −32768 is 32768 in 16 bits
gap_by : (n : ℕ) → n < 32768 → (t : Bool) → eqb n 32767 ≡ t → eqb (65536 - suc n) 32768 ≡ t
gap_by n h true e = eq-eqb (65536 - suc n) 32768 (let k = eqb-true n 32767 e in omega arith)
gap_by n h false e = ne_eqb (65536 - suc n) 32768 (λ k. eqb-false n 32767 e (omega arith))

-- so the test of the bits is that of the number
gap_bits : (z : ℤ) → SFits w16 z → eqb (of_z w16 z) 32768 ≡ is_gap z
gap_bits (pos n) f = let h = f.sfits in ne_eqb n 32768 (λ k. omega arith)
gap_bits (negsuc n) f = gap_by n f.sfits (eqb n 32767) refl

pub returns : goal.returns
returns c = gap_bits c.args.correction c.ranges.correction

-- Where no bit is set so far, no entry before the i-th has a fault.
use mathlib.Core.List.{List}
use mathlib.Core.Path.{◌∙◌, ◌≡◌, sym}
use Prim.Native.Nat.{◌<◌, ℕ}
use native.Mathlib.Omega.{arith}
use borrow.Author.Count.{below_more}
use lib.Bits.{and_le_l, and_le_r, bit_or, or_add_and}
use lib.IntN.{ℤ}
use Rattle.file.proofs.Counted.{behind-count}
use Rattle.file.proofs.Twos.{read_back}
use Rattle.file.specs.File.{correction, uncertainty}
use Rattle.entry_checks.proofs.Faults.{faultless}
use Rattle.entry_checks.specs.Entry.{fault_of}
use Rattle.file_checks.specs.Inner.Sound.{Sound}
use Rattle.file_checks.proofs.faults.Goals as goal

-- two numbers are 0 if, joined, they have no bit set
no_bits : (a b : ℕ) → bit_or a b ≡ 0 → (a ≡ 0) × (b ≡ 0)
no_bits a b e = let s = or_add_and a b in
    (omega (arith, e, s, and_le_r a b), omega (arith, e, s, and_le_l a b))

-- an entry by the numbers that were read of it
sound : (file : List ℕ) (i : ℕ) (c : ℤ) (u : ℕ) → c ≡ correction file i → u ≡ uncertainty file i → u < 65536
    → fault_of c u ≡ 0 → Sound file i
sound file i c u e f small h = rw (← e, ← f) (faultless c u small h)

pub loop-i-preserved : goal.loop-i-preserved
loop-i-preserved c e =
    let l = c.loop-i in
    let file = c.args.file.now in
    let none = no_bits l.all c.fault-all.result e in
    let read = read_back c.correction_at.type_inv c.correction_at.ensures in
    let read-u = c.uncertainty_at.ensures ∙ behind-count file c.args.n l.i c.requires in
    below_more _ l.i (l.invariant none.0)
    (sound file l.i _ _ read read-u (omega arith) (sym c.fault-all.ensures ∙ none.1))

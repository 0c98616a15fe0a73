-- Where no forbidden bit of an uncertainty is set, it is within the limit, and that of a gap is 0.
use mathlib.Core.Bool.{Bool, cond, false, true}
use mathlib.Core.Path.{◌∙◌, ◌≡◌, sym}
use Prim.Native.Nat.{◌%◌, ◌*◌, ◌/◌, ◌<◌, ◌≤◌, ℕ}
use native.Mathlib.Nat.{mod-eq_of_lt}
use native.Mathlib.Omega.{arith}
use lib.Bits.{and_comm, and_high, and_mask, bit_and}
use lib.IntN.{ℤ}
use Rattle.sums.proofs.Search.{false-true}
use Rattle.unit.proofs.Gaps.{certain}
use Rattle.unit.specs.Gaps.{is_gap, uncertain_gap}
use Rattle.entry_checks.specs.Entry.{fault_of}

-- all 16 bits, and the highest of them
all-bits : (u : ℕ) → u < 65536 → u % 65536 ≡ 0 → u ≡ 0
all-bits u small e = omega arith

high_bit : (u : ℕ) → u < 65536 → u / 32768 % 2 * 32768 ≡ 0 → u ≤ 32767
high_bit u small e =
    let half : u / 32768 < 2 = omega arith in
    let none : u / 32768 % 2 ≡ 0 = omega arith in
    let low = sym (mod-eq_of_lt half) ∙ none in
    omega (arith, low)

none-set : (gap : Bool) (u : ℕ) → u < 65536 → bit_and (cond gap 65535 32768) u ≡ 0
    → (u ≤ 32767) × (gap ≡ true → u ≡ 0)
none-set true u small e =
    let zero = all-bits u small (sym (and_mask u 16) ∙ and_comm u 65535 ∙ e) in
    (rw zero (omega arith), λ _. zero)
none-set false u small e =
    (high_bit u small (sym (and_high u 1 15) ∙ and_comm u 32768 ∙ e), λ g. absurd (false-true g))

-- neither 8 nor 16 speaks of an entry without a fault
pub faultless : (correction : ℤ) (u : ℕ) → u < 65536 → fault_of correction u ≡ 0
    → (u ≤ 32767) × (uncertain_gap correction u ≡ false)
faultless correction u small e =
    let n = none-set (is_gap correction) u small e in
    (n.0, certain correction u n.1)

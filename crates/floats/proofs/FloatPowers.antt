-- Powers that floats make one from another are the floats of the powers, as long as these are within 2^53.
use mathlib.Core.List.{List}
use mathlib.Core.Path.{◌∙◌, ◌≡◌, ap, refl}
use Prim.Native.Nat.{◌+◌, ◌<◌, ◌^◌, ◌≤◌, suc, zero, ℕ}
use native.Mathlib.Nat.{pow-suc, pow-zero}
use native.Mathlib.Numerals.{add-one}
use native.Mathlib.Omega.{arith}
use borrow.Author.Tests.{le-leb, lt-leb}
use lib.Ieee.{Float, binary64, mul, nan}
use lib.IntN.{pos}
use lib.ListN.{length}
use Rattle.sums.proofs.Fill.{filled_at}
use Rattle.sums.specs.Fill.{filled, tabulate}
use Rattle.floats.proofs.Products.{float-power}
use Rattle.floats.specs.Floats.{exact, float, float_at}
use Rattle.floats.specs.Powers.{float_power, float_powers, ones}

-- there are ten ones
pub length-ones : length ones ≡ 10
unfolding ones tabulate
length-ones = refl

-- past 9 the table is ones
pub powers-past : (l m : ℕ) → 9 < m → ones ≡ float_powers l m
unfolding float_powers
powers-past l m h = rw (lt-leb m 9 h) refl

-- up to 9 it begins with the powers
pub powers-within : (l m : ℕ) → m ≤ 9 → filled (float_power l) (m + 1) ones ≡ float_powers l m
unfolding float_powers
powers-within l m h = rw (le-leb m 9 h) refl

-- the first power is 1, which stands there already
pub powers-first : (l : ℕ) → ones ≡ filled (float_power l) 1 ones
unfolding float_power ones filled tabulate
powers-first l = refl

-- each power is made from the one before
pub power-next : (l i : ℕ) → mul binary64 (float_power l i) (float (pos l)) ≡ float_power l (i + 1)
unfolding float_power
power-next l i = rw (add-one i) refl

-- and is exact
power-float : (l n : ℕ) → ((i : ℕ) → i ≤ n → l ^ i ≤ exact)
    → (i : ℕ) → i ≤ n → float_power l i ≡ float (pos (l ^ i))
unfolding float_power
power-float l n within zero h = rw (pow-zero l) refl
power-float l n within (suc i) h =
    let one : l ^ 1 ≡ l = pow-suc l 0 ∙ rw (pow-zero l) (omega arith) in
    float-power l i (within i (omega arith)) (omega (arith, within 1 (omega arith), one))
    (power-float l n within i (omega arith)) refl
    ∙ ap (λ (k : ℕ). float (pos (l ^ k))) (add-one i)

-- so the table has the floats of the powers
pub powers-float : (l m : ℕ) → m ≤ 9 → ((i : ℕ) → i ≤ m → l ^ i ≤ exact)
    → (i : ℕ) → i ≤ m → float_at (float_powers l m) i ≡ float (pos (l ^ i))
unfolding float_powers
powers-float l m h within i k =
    rw (le-leb m 9 h)
    (filled_at (float_power l) (m + 1) ones i nan (omega arith) ∙ power-float l m within i k)

-- and so has a list that is the table
pub powers-tabled : (l m : ℕ) {r : List Float} → r ≡ float_powers l m
    → (m ≤ 9) × ((i : ℕ) → i ≤ m → l ^ i ≤ exact)
    → (i : ℕ) → i ≤ m → float_at r i ≡ float (pos (l ^ i))
powers-tabled l m e h i k = ap (λ (t : List Float). float_at t i) e ∙ powers-float l m h.0 h.1 i k

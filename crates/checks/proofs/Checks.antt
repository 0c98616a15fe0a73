-- Checks taken apart: what is known where they have passed.
use mathlib.Core.Bool.{Bool, ◌||◌, false, true}
use mathlib.Core.Path.{◌≡◌, ap, refl, sym}
use Prim.Native.Nat.{ℕ}
use native.Mathlib.Omega.{arith}
use Rattle.sums.proofs.Search.{false-true}
use Rattle.sums.specs.Search.{Found, at, nowhere}
use Rattle.checks.specs.declared.Refusal.{Refusal}
use Rattle.checks.specs.Checks.{Checked, and_then, no_refusal, passed_or, passes, refuse_at, refuse_if}
use Rattle.std.specs.Prelude.{Err, Ok, Result}
use Rattle.std.specs.Result.{IsErr, IsErrAnd}

-- checks that stopped have not passed: anything follows
pub stopped-passed {ℓ} : {A : Type ℓ} (r : Refusal) → Err r ≡ no_refusal → A
stopped-passed r h = let z : ◌≡◌ {A = ℕ} 0 1 = cc in absurd (omega arith)

-- a refusal that `?` passes on is the same one
pub passed_on : {A : Type 0} (r : Result A Refusal) {e : Refusal} → IsErr r × IsErrAnd r (λ x. x ≡ e) → r ≡ Err e
passed_on (Ok x) h = absurd (false-true h.0)
passed_on (Err x) h = ap Err h.1

-- where a chain has passed, its first condition does not apply and the further checks have passed
pub if-passed : (n : Refusal) (applies : Bool) (rest : Checked) → refuse_if n applies rest ≡ no_refusal
    → (applies ≡ false) × (rest ≡ no_refusal)
if-passed n true rest h = stopped-passed n h
if-passed n false rest h = (refl, h)

-- the same of a first check by a search: it found nothing
pub at-passed : (n : ℕ → Refusal) (found : Found) (rest : Checked) → refuse_at n found rest ≡ no_refusal
    → (found ≡ nowhere) × (rest ≡ no_refusal)
at-passed n nowhere rest h = (refl, h)
at-passed n (at i) rest h = stopped-passed (n i) h

-- the same of two chains, one after the other: both have passed
pub then-passed : (start rest : Checked) → and_then start rest ≡ no_refusal → (start ≡ no_refusal) × (rest ≡ no_refusal)
then-passed (Ok _) rest h = (refl, h)
then-passed (Err r) rest h = stopped-passed r h

-- checks that say that they pass have passed
pub passes-passed : (c : Checked) → passes c ≡ true → c ≡ no_refusal
passes-passed (Ok _) h = refl
passes-passed (Err r) h = absurd (false-true h)

-- where no test of two applies, neither does
pub or-false : (a b : Bool) → (a || b) ≡ false → (a ≡ false) × (b ≡ false)
or-false true b h = let z : ◌≡◌ {A = ℕ} 0 1 = cc in absurd (omega arith)
or-false false b h = (refl, h)

-- a check that stops, stops whatever would follow
pub if-stopped : (n : Refusal) (applies : Bool) (rest : Checked) (r : Refusal)
    → refuse_if n applies no_refusal ≡ Err r → refuse_if n applies rest ≡ Err r
if-stopped n true rest r h = h
if-stopped n false rest r h = stopped-passed r (sym h)

-- ---- answers by checks

-- a refused answer: its refusal is that of the checks
pub refused-by : {A : Type 0} (k : Checked) (made : A) {r : Refusal} → passed_or k (Ok made) Err ≡ Err r → k ≡ Err r
refused-by (Ok _) made h = let z : ◌≡◌ {A = ℕ} 0 1 = cc in absurd (omega arith)
refused-by (Err s) made h = cc

-- an answer with a value: all checks passed, and it is the value that was made
pub made-by : {A : Type 0} (k : Checked) (made : A) {value : A} → passed_or k (Ok made) Err ≡ Ok value
    → (k ≡ no_refusal) × (value ≡ made)
made-by (Ok _) made h = (refl, cc)
made-by (Err s) made h = let z : ◌≡◌ {A = ℕ} 0 1 = cc in absurd (omega arith)

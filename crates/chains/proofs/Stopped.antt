-- Which check of a chain it was that stopped, by its refusal: m i is the one that speaks of the place i.
use mathlib.Core.Bool.{Bool, false, true}
use mathlib.Core.Path.{◌∙◌, ◌≡◌, ap, refl, sym}
use Prim.Native.Nat.{ℕ}
use Rattle.sums.specs.Search.{Found, at, nowhere}
use Rattle.checks.proofs.Checks.{stopped-passed}
use Rattle.checks.specs.declared.Refusal.{Refusal}
use Rattle.checks.specs.Checks.{Checked, and_then, no_refusal, number_of, place_of, refuse_at, refuse_if}
use Rattle.std.specs.Prelude.{Err, Ok}

-- one that speaks of no place
abbrev pub placeless : Refusal → ℕ → Refusal
placeless r i = r

-- checks that no refusal m i stops
abbrev pub Never : (ℕ → Refusal) → Checked → Type 0
Never m k = (i : ℕ) → k ≡ Err (m i) → ⊥

pub passed-never : (m : ℕ → Refusal) → Never m no_refusal
passed-never m i h = stopped-passed (m i) (sym h)

-- another refusal has another number
other_number : {r s : Refusal} → (number_of r ≡ number_of s → ⊥) → ◌≡◌ {A = Checked} (Err r) (Err s) → ⊥
other_number {r} {s} other h = let e : r ≡ s = cc in other (ap number_of e)

-- a check of another refusal is not the one that stopped
pub if-other : (k r : Refusal) (applies : Bool) (rest : Checked) → (number_of k ≡ number_of r → ⊥)
    → refuse_if k applies rest ≡ Err r → rest ≡ Err r
if-other k r true rest other h = absurd (other_number other h)
if-other k r false rest other h = h

pub if-never : (k : Refusal) (m : ℕ → Refusal) (applies : Bool) (rest : Checked)
    → ((i : ℕ) → number_of k ≡ number_of (m i) → ⊥) → Never m rest → Never m (refuse_if k applies rest)
if-never k m applies rest other never i h = never i (if-other k (m i) applies rest (other i) h)

-- nor is one by a search
pub at-never : (k m : ℕ → Refusal) (found : Found) (rest : Checked)
    → ((j i : ℕ) → number_of (k j) ≡ number_of (m i) → ⊥) → Never m rest → Never m (refuse_at k found rest)
at-never k m nowhere rest other never i h = never i h
at-never k m (at j) rest other never i h = other_number (other j i) h

-- a search that stopped found the place of its refusal
pub at-stopped : (m : ℕ → Refusal) (i : ℕ) (found : Found) → ((j : ℕ) → place_of (m j) ≡ j)
    → refuse_at m found no_refusal ≡ Err (m i) → found ≡ at i
at-stopped m i nowhere placed h = stopped-passed (m i) (sym h)
at-stopped m i (at k) placed h =
    let e : m k ≡ m i = cc in
    ap at (sym (placed k) ∙ ap place_of e ∙ placed i)

-- of two chains one after the other, the second stopped where the first never does
pub then-second : (m : ℕ → Refusal) (i : ℕ) (start rest : Checked) → Never m start
    → and_then start rest ≡ Err (m i) → (start ≡ no_refusal) × (rest ≡ Err (m i))
then-second m i (Ok _) rest never h = (refl, h)
then-second m i (Err r) rest never h = absurd (never i h)

-- and the first where the second never does
pub then-first : (m : ℕ → Refusal) (i : ℕ) (start rest : Checked) → Never m rest
    → and_then start rest ≡ Err (m i) → start ≡ Err (m i)
then-first m i (Ok _) rest never h = absurd (never i h)
then-first m i (Err r) rest never h = h

-- two chains that never stop so, one after the other
pub then_never : (m : ℕ → Refusal) (start rest : Checked) → Never m start → Never m rest
    → Never m (and_then start rest)
then_never m start rest first second i h = second i (then-second m i start rest first h).1

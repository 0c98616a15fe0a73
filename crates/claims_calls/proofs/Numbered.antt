-- Checks in a row that refuse, if at all, with a number of a list; and the place of a refusal by its number.
use mathlib.Core.Bool.{Bool, ◌&&◌, ◌||◌, false, true}
use mathlib.Core.List.{List, [], ◌++◌, ◌∷◌}
use mathlib.Core.Path.{◌∙◌, ◌≡◌, ap, refl, subst, sym}
use Prim.Native.Nat.{ℕ}
use borrow.Author.Tests.{eq-eqb, eqb-true}
use lib.Dec.{eqb}
use Rattle.sums.proofs.Search.{false-true}
use Rattle.sums.specs.Search.{Found, at, nowhere}
use Rattle.checks.specs.declared.Refusal.{Refusal}
use Rattle.checks.specs.declared.Refusal.TheVariants.{BadByte, BadDivisor, BadLength, BadMultiplicities}
use Rattle.checks.specs.declared.Refusal.TheVariants.{BadSizes, BlockRoom, Differing, ImpossiblePlacing}
use Rattle.checks.specs.declared.Refusal.TheVariants.{LargeLiveScale, LargeScale, LargeUncertainty}
use Rattle.checks.specs.declared.Refusal.TheVariants.{LongOrder, NetRoom, NoBlock, NoNet, Outside}
use Rattle.checks.specs.declared.Refusal.TheVariants.{ShortFile, UncertainGap, UnevenShares, WindowGap}
use Rattle.claims_calls.specs.Refusals.{among, speaks_of_place}
use Rattle.checks.specs.Checks.{Checked, and_then, number_of, place_of, refuse_at, refuse_if}
use Rattle.std.specs.Prelude.{Err, Ok}

-- ---- numbers of a list

or-second : (a b : Bool) → b ≡ true → (a || b) ≡ true
or-second true b h = refl
or-second false b h = h

or-more : (a : Bool) {b c : Bool} → (b ≡ true → c ≡ true) → (a || b) ≡ true → (a || c) ≡ true
or-more true more h = refl
or-more false more h = more h

-- what is among one of two lists is among both in a row
among_first : (l m : List ℕ) (n : ℕ) → among n l ≡ true → among n (l ++ m) ≡ true
among_first [] m n h = absurd (false-true h)
among_first (x ∷ l) m n h = or-more (eqb n x) (among_first l m n) h

among_second : (l m : List ℕ) (n : ℕ) → among n m ≡ true → among n (l ++ m) ≡ true
among_second [] m n h = h
among_second (x ∷ l) m n h = or-second (eqb n x) _ (among_second l m n h)

-- all numbers of one list are among another
abbrev pub all_among : List ℕ → List ℕ → Bool
all_among [] m = true
all_among (x ∷ l) m = among x m && all_among l m

both : (a b : Bool) → (a && b) ≡ true → (a ≡ true) × (b ≡ true)
both true b h = (refl, h)
both false b h = absurd (false-true h)

among-all : (l m : List ℕ) (n : ℕ) → all_among l m ≡ true → among n l ≡ true → among n m ≡ true
among-all [] m n all h = absurd (false-true h)
among-all (x ∷ l) m n all h =
    let parts = both (among x m) (all_among l m) all in
    go (eqb n x) refl h parts.0 (among-all l m n parts.1)
  where
    go : (a : Bool) → eqb n x ≡ a → (a || among n l) ≡ true → among x m ≡ true
        → (among n l ≡ true → among n m ≡ true) → among n m ≡ true
    go true e k here rest = ap (λ (i : ℕ). among i m) (eqb-true n x e) ∙ here
    go false e k here rest = rest k

-- ---- checks in a row

-- a refusal with a number of the list
pub record Listed (l : List ℕ) (r : Refusal) : Type 0 where
  pub is : among (number_of r) l ≡ true

-- checks that stop, if at all, with such a refusal
abbrev pub Numbered : List ℕ → Checked → Type 0
Numbered l (Ok _) = Prim.Unit {0}
Numbered l (Err r) = Listed l r

wider : (l m : List ℕ) (k : Checked) → ((n : ℕ) → among n l ≡ true → among n m ≡ true)
    → Numbered l k → Numbered m k
wider l m (Ok _) more h = tt
wider l m (Err r) more h = record { is = more (number_of r) h.is }

-- of checks one after another, the numbers are those of each
pub if-numbered : (k : Refusal) (applies : Bool) (rest : Checked) (l : List ℕ)
    → Numbered l rest → Numbered (number_of k ∷ l) (refuse_if k applies rest)
if-numbered k true rest l h = let n = number_of k in record { is = rw (eq-eqb n n refl) refl }
if-numbered k false rest l h =
    let n = number_of k in wider l (n ∷ l) rest (λ i more. or-second (eqb i n) (among i l) more) h

pub at-numbered : (k : ℕ → Refusal) {n : ℕ} (found : Found) (rest : Checked) (l : List ℕ)
    → ((i : ℕ) → number_of (k i) ≡ n) → Numbered l rest → Numbered (n ∷ l) (refuse_at k found rest)
at-numbered k {n} nowhere rest l is h = wider l (n ∷ l) rest (λ i more. or-second (eqb i n) (among i l) more) h
at-numbered k {n} (at i) rest l is h = record { is = rw (is i) (rw (eq-eqb n n refl) refl) }

pub then-numbered : (l m : List ℕ) (start rest : Checked) → Numbered l start → Numbered m rest
    → Numbered (l ++ m) (and_then start rest)
then-numbered l m (Ok _) rest h k = wider m (l ++ m) rest (among_second l m) k
then-numbered l m (Err r) rest h k = wider l (l ++ m) (Err r) (among_first l m) h

-- the refusal that stopped, in a list that has all these numbers
pub stopped-listed : (l m : List ℕ) {k : Checked} {r : Refusal} → Numbered l k → all_among l m ≡ true
    → k ≡ Err r → Listed m r
stopped-listed l m {k} {r} h all e = wider l m (Err r) (λ n. among-all l m n all) (subst (Numbered l) e h)

-- ---- places

-- a refusal whose number speaks of no place has the place 0
pub no-place : (r : Refusal) → speaks_of_place (number_of r) ≡ false → place_of r ≡ 0
no-place LongOrder h = refl
no-place (BadByte i) h = absurd (false-true (sym h))
no-place BadMultiplicities h = refl
no-place NetRoom h = refl
no-place ShortFile h = refl
no-place BadSizes h = refl
no-place BadLength h = refl
no-place (LargeUncertainty i) h = absurd (false-true (sym h))
no-place BlockRoom h = refl
no-place BadDivisor h = refl
no-place LargeScale h = refl
no-place Outside h = refl
no-place (WindowGap i) h = absurd (false-true (sym h))
no-place (Differing i) h = absurd (false-true (sym h))
no-place LargeLiveScale h = refl
no-place (UncertainGap i) h = absurd (false-true (sym h))
no-place ImpossiblePlacing h = refl
no-place NoNet h = refl
no-place NoBlock h = refl
no-place UnevenShares h = refl

-- What a load equals, where exactly 8 and 16 refuse one, and that an old file is refused.
use mathlib.Core.Bool.{Bool, ◌||◌, false, not, true}
use mathlib.Core.List.{List}
use mathlib.Core.Logic.{◌↔◌}
use mathlib.Core.Path.{◌∙◌, ◌≡◌, refl, sym}
use Prim.Native.Nat.{◌<◌, ℕ}
use native.Mathlib.Omega.{arith}
use borrow.Author.Tests.{lt-ltb, ltb-true}
use lib.Dec.{eqb, ltb}
use lib.IntN.{ℤ}
use lib.ListN.{length}
use Rattle.sums.proofs.Search.{false-true, first_found, first-hit, first-nowhere, nowhere-first}
use Rattle.sums.specs.Search.{Found, at, first, nowhere}
use Rattle.allowed.specs.Allowed.{sizes_allowed}
use Rattle.unit.proofs.Gaps.{uncertain-gap}
use Rattle.unit.specs.Gaps.{uncertain_gap}
use Rattle.unit.specs.declared.Unit.{Unit}
use Rattle.file.specs.File.{correction, entry_count, file_length, header_length, size1, size2, size3}
use Rattle.file.specs.File.{uncertainty}
use Rattle.file_checks.specs.FileChecks.{file_checks, layout_checks}
use Rattle.field.specs.Load.{load_answer, load_checks, load_corrections, load_uncertainties}
use Rattle.encoding.proofs.OldLayout.{old-refused}
use Rattle.encoding.proofs.RoundTrip.{encoding-bytes, load-encoding}
use Rattle.claims_loads.specs.Loads.{GapWithUncertainty, IsLowest, LoadEight, LoadGivesBack}
use Rattle.claims_loads.specs.Loads.{LoadSixteen, OldLayout, OverLimit}
use Rattle.std.specs.Prelude.{Err, Ok}
use Rattle.checks.specs.Checks.{Checked, and_then, no_refusal, refuse_at, refuse_if}
use Rattle.checks.specs.declared.Refusal.{Refusal}
use Rattle.checks.specs.declared.Refusal.TheVariants.{BadLength, BadSizes, BlockRoom, LargeUncertainty}
use Rattle.checks.specs.declared.Refusal.TheVariants.{ShortFile, UncertainGap}
use Rattle.checks.proofs.Checks.{refused-by}

pub load-gives-back : LoadGivesBack
load-gives-back n1 n2 n3 o1 o2 o3 cs us l = (
  encoding-bytes n1 n2 n3 o1 o2 o3 cs us l,
  λ u corrections uncertainties room1 room2.
      load-encoding n1 n2 n3 o1 o2 o3 cs us l corrections uncertainties room1 room2 u,
)

pub old-layout : OldLayout
unfolding load_answer load_corrections load_uncertainties
old-layout u file corrections uncertainties allowed old =
    let e = old-refused file (length corrections) (length uncertainties) allowed old in
    (simp e, simp e, simp e)

-- ---- the lowest entry of which something holds

holds_not : (b : Bool) → (b ≡ true → ⊥) → b ≡ false
holds_not true h = absurd (h refl)
holds_not false h = refl

module _ (n : ℕ) (p : ℕ → Bool) (P : ℕ → Type 0) (says : (i : ℕ) → (p i ≡ true) ↔ P i) where
  -- what a search finds is the lowest of which its test tells
  found-lowest : (i : ℕ) → first n p ≡ at i → IsLowest n P i
  found-lowest i e =
      let f = first_found p n i e in
      record {
        below = f.0;
        holds = (says i).0 f.1;
        none_lower = λ j l h. false-true (sym (f.2 j l) ∙ (says j).1 h);
      }

  -- and back
  lowest-found : (i : ℕ) → IsLowest n P i → first n p ≡ at i
  lowest-found i l =
      let none = nowhere-first p i (λ j k. holds_not (p j) (λ h. l.none_lower j k ((says j).0 h))) in
      first-hit p n i none ((says i).1 l.holds) l.below

-- ---- the checks of a load

over-limit : (file : List ℕ) (i : ℕ) → (ltb 32767 (uncertainty file i) ≡ true) ↔ OverLimit file i
over-limit file i = (ltb-true 32767 (uncertainty file i), lt-ltb 32767 (uncertainty file i))

-- the checks by what their tests say: 5, 6, 7, and the two searches
abbrev layout : Bool → Bool → Bool → Checked
layout five six seven =
    refuse_if ShortFile five (refuse_if BadSizes six (refuse_if BadLength seven no_refusal))

abbrev searches : Found → Found → Checked
searches large gap =
    and_then (refuse_at LargeUncertainty large no_refusal) (refuse_at UncertainGap gap no_refusal)

-- a refusal by 8 comes of the first search, behind a layout that passes
by_eight : (five six seven : Bool) (large gap : Found) (i : ℕ)
    → and_then (layout five six seven) (searches large gap) ≡ Err (LargeUncertainty i)
    → (layout five six seven ≡ no_refusal) × (large ≡ at i)
by_eight true six seven large gap i h = cc
by_eight false true seven large gap i h = cc
by_eight false false true large gap i h = cc
by_eight false false false (at j) gap i h = (refl, cc)
by_eight false false false nowhere (at j) i h = cc
by_eight false false false nowhere nowhere i h = cc

-- one by 16 of the second, where the first has found nothing
by_sixteen : (five six seven : Bool) (large gap : Found) (i : ℕ)
    → and_then (layout five six seven) (searches large gap) ≡ Err (UncertainGap i)
    → (layout five six seven ≡ no_refusal) × (large ≡ nowhere) × (gap ≡ at i)
by_sixteen true six seven large gap i h = cc
by_sixteen false true seven large gap i h = cc
by_sixteen false false true large gap i h = cc
by_sixteen false false false (at j) gap i h = cc
by_sixteen false false false nowhere (at j) i h = (refl, refl, cc)
by_sixteen false false false nowhere nowhere i h = cc

module _ (file : List ℕ) where
  abbrev n : ℕ
  n = entry_count file

  abbrev is_large : ℕ → Bool
  is_large i = ltb 32767 (uncertainty file i)

  abbrev is_uncertain_gap : ℕ → Bool
  is_uncertain_gap i = uncertain_gap (correction file i) (uncertainty file i)

  abbrev large : Found
  large = first n is_large

  abbrev gap : Found
  gap = first n is_uncertain_gap

  abbrev five : Bool
  five = ltb (length file) header_length

  abbrev six : Bool
  six = not (sizes_allowed (size1 file) (size2 file) (size3 file))

  abbrev seven : Bool
  seven = not (eqb (length file) (file_length n))

  -- stopped by 8
  eight-lowest : (i : ℕ) → file_checks file ≡ Err (LargeUncertainty i)
      → (layout_checks file ≡ no_refusal) × IsLowest n (OverLimit file) i
  unfolding file_checks layout_checks
  eight-lowest i h =
      let s = by_eight five six seven large gap i h in
      (s.0, found-lowest n is_large (OverLimit file) (over-limit file) i s.1)

  lowest-eight : (i : ℕ) → layout_checks file ≡ no_refusal → IsLowest n (OverLimit file) i
      → file_checks file ≡ Err (LargeUncertainty i)
  unfolding file_checks
  lowest-eight i e l = simp (e, lowest-found n is_large (OverLimit file) (over-limit file) i l)

  gap-told : (i : ℕ) → (is_uncertain_gap i ≡ true) ↔ GapWithUncertainty file i
  gap-told i = uncertain-gap (correction file i) (uncertainty file i)

  -- stopped by 16
  sixteen-lowest : (i : ℕ) → file_checks file ≡ Err (UncertainGap i)
      → (layout_checks file ≡ no_refusal)
      × ((j : ℕ) → j < n → OverLimit file j → ⊥)
      × IsLowest n (GapWithUncertainty file) i
  unfolding file_checks layout_checks
  sixteen-lowest i h =
      let s = by_sixteen five six seven large gap i h in
      let small = first-nowhere is_large n s.1 in (
        s.0,
        λ j l over. false-true (sym (small j l) ∙ (over-limit file j).1 over),
        found-lowest n is_uncertain_gap (GapWithUncertainty file) gap-told i s.2,
      )

  lowest-sixteen : (i : ℕ) → layout_checks file ≡ no_refusal → ((j : ℕ) → j < n → OverLimit file j → ⊥)
      → IsLowest n (GapWithUncertainty file) i → file_checks file ≡ Err (UncertainGap i)
  unfolding file_checks
  lowest-sixteen i e none l =
      let small = nowhere-first is_large n
      (λ j k. holds_not (is_large j) (λ o. none j k ((over-limit file j).0 o))) in
      simp (e, small, lowest-found n is_uncertain_gap (GapWithUncertainty file) gap-told i l)

-- what refuses a load, other than 9, is a check of its file
of-file : (u : Unit) (file : List ℕ) (corrections : List ℤ) (uncertainties : List ℕ) (r : Refusal)
    → (BlockRoom ≡ r → ⊥) → load_answer u file corrections uncertainties ≡ Err r → file_checks file ≡ Err r
unfolding load_answer load_checks
of-file u file corrections uncertainties r other h =
    let n = entry_count file in
    go (file_checks file) (ltb (length corrections) n || ltb (length uncertainties) n) (refused-by _ _ h)
  where
    go : (k : Checked) (short : Bool) → and_then k (refuse_if BlockRoom short no_refusal) ≡ Err r → k ≡ Err r
    go (Ok _) true e = absurd (other cc)
    go (Ok _) false e = cc
    go (Err s) short e = e

-- ---- the statements

pub load-eight : LoadEight
unfolding load_answer load_checks
load-eight u file corrections uncertainties i = (
  λ h. eight-lowest file i (of-file u file corrections uncertainties (LargeUncertainty i) (λ e. cc) h),
  λ h. simp (lowest-eight file i h.0 h.1),
)

pub load-sixteen : LoadSixteen
unfolding load_answer load_checks
load-sixteen u file corrections uncertainties i = (
  λ h.
      let f = of-file u file corrections uncertainties (UncertainGap i) (λ e. cc) h in
      let s = sixteen-lowest file i f in
      (s.0, λ j l. s.1 j (omega (arith, l)), s.2),
  λ h. simp (lowest-sixteen file i h.0 (λ j l. h.1 j (omega (arith, l))) h.2),
)

-- The numbers by which the checks of a file and of its load refuse, in their order.
use mathlib.Core.Bool.{Bool, ◌||◌, cond, false, not, true}
use mathlib.Core.List.{List, [], ◌∷◌}
use mathlib.Core.Path.{refl}
use Prim.Native.Nat.{ℕ}
use lib.Dec.{eqb, ltb}
use lib.IntN.{ℤ}
use lib.ListN.{length}
use Rattle.sums.specs.Search.{at, first}
use Rattle.allowed.specs.Allowed.{sizes_allowed}
use Rattle.unit.specs.Gaps.{uncertain_gap}
use Rattle.limits.specs.Limits.{block_room_check}
use Rattle.file.specs.File.{correction, entry_count, file_length, header_length, size1, size2, size3}
use Rattle.file.specs.File.{uncertainty}
use Rattle.entry_checks.specs.Entry.{gap_at, limit_at}
use Rattle.file_checks.specs.FileChecks.{file_checks, gap_check, layout_checks, limit_check}
use Rattle.field.specs.Load.{load_checks}
use Rattle.claims_calls.proofs.Numbered.{Numbered, at-numbered, if-numbered, then-numbered}
use Rattle.checks.specs.Checks.{and_then, no_refusal}
use Rattle.std.specs.Prelude.{Err}
use Rattle.checks.specs.declared.Refusal.TheVariants.{BadLength, BadSizes, BlockRoom, LargeUncertainty, ShortFile, UncertainGap}

pub block-room-numbered : (n corrections_length uncertainties_length : ℕ)
    → Numbered (9 ∷ []) (block_room_check n corrections_length uncertainties_length)
block-room-numbered n corrections_length uncertainties_length =
    if-numbered BlockRoom (ltb corrections_length n || ltb uncertainties_length n) no_refusal [] tt

pub file-numbered : (file : List ℕ) → Numbered (5 ∷ 6 ∷ 7 ∷ 8 ∷ 16 ∷ []) (file_checks file)
unfolding file_checks layout_checks
file-numbered file =
    let n = entry_count file in
    let gap : ℕ → Bool = λ i. uncertain_gap (correction file i) (uncertainty file i) in
    let limits = limit_check n (uncertainty file) in
    let gaps = gap_check n (correction file) (uncertainty file) in
    then-numbered (5 ∷ 6 ∷ 7 ∷ []) (8 ∷ 16 ∷ []) (layout_checks file) (and_then limits gaps)
    (if-numbered ShortFile (ltb (length file) header_length) _ (6 ∷ 7 ∷ [])
    (if-numbered BadSizes (not (sizes_allowed (size1 file) (size2 file) (size3 file))) _ (7 ∷ [])
    (if-numbered BadLength (not (eqb (length file) (file_length n))) no_refusal [] tt)))
    (then-numbered (8 ∷ []) (16 ∷ []) limits gaps
    (at-numbered LargeUncertainty (first n (λ i. ltb 32767 (uncertainty file i))) no_refusal [] (λ _. refl) tt)
    (at-numbered UncertainGap (first n gap) no_refusal [] (λ _. refl) tt))

pub load-numbered : (file : List ℕ) (corrections_length uncertainties_length : ℕ)
    → Numbered (5 ∷ 6 ∷ 7 ∷ 8 ∷ 16 ∷ 9 ∷ []) (load_checks file corrections_length uncertainties_length)
unfolding load_checks
load-numbered file corrections_length uncertainties_length =
    let n = entry_count file in
    then-numbered (5 ∷ 6 ∷ 7 ∷ 8 ∷ 16 ∷ []) (9 ∷ []) (file_checks file)
    (block_room_check n corrections_length uncertainties_length) (file-numbered file)
    (block-room-numbered n corrections_length uncertainties_length)

pub limit-numbered : (i uncertainty : ℕ) → Numbered (8 ∷ []) (limit_at i uncertainty)
limit-numbered i uncertainty = go (ltb 32767 uncertainty)
  where
    go : (b : Bool) → Numbered (8 ∷ []) (cond b (Err (LargeUncertainty i)) no_refusal)
    go true = at-numbered LargeUncertainty (at i) no_refusal [] (λ _. refl) tt
    go false = tt

pub gap-numbered : (i : ℕ) (correction : ℤ) (uncertainty : ℕ)
    → Numbered (16 ∷ []) (gap_at i correction uncertainty)
gap-numbered i correction uncertainty = go (uncertain_gap correction uncertainty)
  where
    go : (b : Bool) → Numbered (16 ∷ []) (cond b (Err (UncertainGap i)) no_refusal)
    go true = at-numbered UncertainGap (at i) no_refusal [] (λ _. refl) tt
    go false = tt

-- The checks of a field file: Sections 5.3, 5.4, 8.3.
use Rattle.std.specs.Prelude.{not, List, ℕ, eqb, ltb, ℤ, length}
use Rattle.sums.specs.Search.{first}
use Rattle.allowed.specs.Allowed.{sizes_allowed}
use Rattle.unit.specs.Gaps.{uncertain_gap}
use Rattle.file.specs.File.{correction, entry_count, file_length, header_length, size1, size2, size3}
use Rattle.file.specs.File.{uncertainty}
use Rattle.checks.specs.Checks.{Checked, and_then, no_refusal, refuse_at, refuse_if}
use Rattle.checks.specs.declared.Refusal.TheVariants.{BadLength, BadSizes, LargeUncertainty}
use Rattle.checks.specs.declared.Refusal.TheVariants.{ShortFile, UncertainGap}

-- Section 5.3: 5, 6 and 7, on the file's sizes and its length
unfoldable pub layout_checks : List ℕ → Checked
layout_checks file =
    refuse_if ShortFile (ltb (length file) header_length)
    (refuse_if BadSizes (not (sizes_allowed (size1 file) (size2 file) (size3 file)))
    (refuse_if BadLength (not (eqb (length file) (file_length (entry_count file)))) no_refusal))

-- Section 8.3: 8, at the first entry whose uncertainty is over the limit
abbrev pub limit_check : ℕ → (ℕ → ℕ) → Checked
limit_check n uncertainty_of =
    refuse_at LargeUncertainty (first n (λ i. ltb 32767 (uncertainty_of i))) no_refusal

-- Section 8.3: 16, at the first entry that is a gap and has an uncertainty
abbrev pub gap_check : ℕ → (ℕ → ℤ) → (ℕ → ℕ) → Checked
gap_check n correction_of uncertainty_of =
    refuse_at UncertainGap (first n (λ i. uncertain_gap (correction_of i) (uncertainty_of i))) no_refusal

-- Section 5.4: the checks 5, 6, 7, 8, 16 in this order
unfoldable pub file_checks : List ℕ → Checked
file_checks file =
    and_then (layout_checks file)
    (and_then (limit_check (entry_count file) (uncertainty file))
    (gap_check (entry_count file) (correction file) (uncertainty file)))

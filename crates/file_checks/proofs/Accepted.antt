-- A file to which no refusal applies: the facts that this gives, and back.
use mathlib.Core.List.{List}
use mathlib.Core.Path.{◌≡◌}
use Prim.Native.Nat.{◌<◌, ◌≤◌, ℕ}
use borrow.Author.Tests.{eq-eqb, eqb-true, le-ltb, ltb-false, not-false}
use lib.Dec.{ltb}
use lib.ListN.{length}
use Rattle.sums.proofs.Search.{nowhere-first}
use Rattle.checks.proofs.Checks.{if-passed, then-passed}
use Rattle.allowed.proofs.Limits.{BlockLimits, limits-sizes, sizes-limits}
use Rattle.unit.specs.Gaps.{uncertain_gap}
use Rattle.file.specs.File.{correction, entry_count, file_length, header_length, size1, size2, size3}
use Rattle.file.specs.File.{uncertainty}
use Rattle.file_checks.specs.FileChecks.{file_checks, layout_checks}
use Rattle.file_checks.specs.Inner.Sound.{Sound}
use Rattle.checks.specs.Checks.{no_refusal}
use Rattle.checks.specs.declared.Refusal.TheVariants.{BadLength, BadSizes, ShortFile}

pub record LayoutAccepted (file : List ℕ) : Type 0 where
  pub header : header_length ≤ length file
  pub sizes : BlockLimits (size1 file) (size2 file) (size3 file)
  pub exact : length file ≡ file_length (entry_count file)

module _ (file : List ℕ) where
  abbrev n : ℕ
  n = entry_count file

  -- ---- the layout

  -- a layout that is not refused: the header is there, the sizes are within limits, the length is exact
  pub layout-accepted : layout_checks file ≡ no_refusal → LayoutAccepted file
  unfolding layout_checks
  layout-accepted h =
      let p5 = if-passed ShortFile _ _ h in
      let p6 = if-passed BadSizes _ _ p5.1 in
      let p7 = if-passed BadLength _ _ p6.1 in
      record {
        header = ltb-false _ _ p5.0;
        sizes = sizes-limits (size1 file) (size2 file) (size3 file) (not-false _ p6.0);
        exact = eqb-true _ _ (not-false _ p7.0);
      }

  -- and back
  pub accepted-layout : LayoutAccepted file → layout_checks file ≡ no_refusal
  unfolding layout_checks
  accepted-layout a = simp (le-ltb _ _ a.header, limits-sizes _ _ _ a.sizes, eq-eqb _ _ a.exact)

  -- ---- all checks

  -- a file that is not refused has an accepted layout
  pub file-layout : file_checks file ≡ no_refusal → LayoutAccepted file
  unfolding file_checks
  file-layout h = layout-accepted (then-passed (layout_checks file) _ h).0

  -- a file of accepted layout and sound entries is not refused
  pub accepted-file : layout_checks file ≡ no_refusal → ((i : ℕ) → i < n → Sound file i)
      → file_checks file ≡ no_refusal
  unfolding file_checks
  accepted-file layout sound =
      simp (
        layout,
        nowhere-first (λ i. ltb 32767 (uncertainty file i)) n (λ i l. le-ltb _ _ (sound i l).0),
        nowhere-first (λ i. uncertain_gap (correction file i) (uncertainty file i)) n (λ i l. (sound i l).1),
      )

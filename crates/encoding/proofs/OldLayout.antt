-- A file of the layout before 0.7.0, which had no origin: 6 bytes of sizes, then the arrays. It is 6 bytes
-- short of the layout with one, so a load refuses it.
use mathlib.Core.Bool.{Bool, cond, false, true}
use mathlib.Core.List.{List}
use mathlib.Core.Path.{◌≡◌, refl}
use Prim.Native.Nat.{◌*◌, ◌+◌, ◌≤◌, ℕ}
use native.Mathlib.Nat.{mul-le-mul}
use native.Mathlib.Omega.{arith}
use borrow.Author.Tests.{eqb-false, eqb-true, le-ltb, lt-ltb, ne_eqb}
use lib.Dec.{eqb}
use lib.ListN.{length}
use Rattle.allowed.proofs.Limits.{sizes-limits}
use Rattle.allowed.specs.Allowed.{sizes_allowed}
use Rattle.file.specs.File.{entry_count, file_length, header_length, size1, size2, size3}
use Rattle.file_checks.specs.FileChecks.{file_checks, layout_checks}
use Rattle.field.specs.Load.{load_checks}
use Rattle.std.specs.Prelude.{Err}
use Rattle.checks.specs.declared.Refusal.TheVariants.{BadLength, ShortFile}

module _ (file : List ℕ) (corrections_length uncertainties_length : ℕ)
    (allowed : sizes_allowed (size1 file) (size2 file) (size3 file) ≡ true)
    (old : length file ≡ 6 + 4 * entry_count file) where
  abbrev n : ℕ
  n = entry_count file

  some : 1 ≤ n
  some =
      let l = sizes-limits (size1 file) (size2 file) (size3 file) allowed in
      mul-le-mul {n₁ = 1} (mul-le-mul {n₁ = 1} l.least1 l.least2) l.least3

  -- of one entry it is shorter than sizes and origin
  of_one : n ≡ 1 → load_checks file corrections_length uncertainties_length ≡ Err ShortFile
  unfolding file_checks layout_checks load_checks
  of_one e = simp (lt-ltb (length file) header_length (omega (arith, old, e)))

  -- of more it is not, but its length is not that for its entries
  of-more : (n ≡ 1 → ⊥) → load_checks file corrections_length uncertainties_length ≡ Err BadLength
  unfolding file_checks layout_checks load_checks
  of-more e =
      simp (
        le-ltb (length file) header_length (omega (arith, old, some, e)),
        allowed,
        ne_eqb (length file) (file_length n) (λ s. omega (arith, old, s)),
      )

  -- so it is refused, whatever its entries are and whatever room the slices have
  pub old-refused : load_checks file corrections_length uncertainties_length
      ≡ Err (cond (eqb n 1) ShortFile BadLength)
  old-refused = by_count (eqb n 1) refl
    where
      by_count : (one : Bool) → eqb n 1 ≡ one
          → load_checks file corrections_length uncertainties_length ≡ Err (cond one ShortFile BadLength)
      by_count true h = of_one (eqb-true n 1 h)
      by_count false h = of-more (eqb-false n 1 h)

-- What a load answers and leaves in its slices: Sections 5.4, 8.4.
use Rattle.std.specs.Prelude.{Err, List, Ok, Result, length, ℕ, ℤ}
use Rattle.sums.specs.Fill.{filled}
use Rattle.unit.specs.Unit.{with_block}
use Rattle.unit.specs.declared.Unit.{Unit}
use Rattle.limits.specs.Limits.{block_room_check}
use Rattle.file.specs.File.{correction, entry_count, origin1, origin2, origin3, size1, size2, size3}
use Rattle.file.specs.File.{uncertainty}
use Rattle.file_checks.specs.FileChecks.{file_checks}
use Rattle.checks.specs.Checks.{Checked, and_then, passed_or}
use Rattle.checks.specs.declared.Refusal.{Refusal}

-- Section 5.4: the checks of the file, 5, 6, 7, 8, 16, and then 9, for slices of these lengths
unfoldable pub load_checks : List ℕ → ℕ → ℕ → Checked
load_checks file corrections_length uncertainties_length =
    and_then (file_checks file) (block_room_check (entry_count file) corrections_length uncertainties_length)

-- Section 8.4: the answer
unfoldable pub load_answer : Unit → List ℕ → List ℤ → List ℕ → Result Unit Refusal
load_answer u file corrections uncertainties =
    passed_or (load_checks file (length corrections) (length uncertainties))
    (Ok
    (with_block u (size1 file) (size2 file) (size3 file) (origin1 file) (origin2 file) (origin3 file)))
    Err

-- Section 8.4: the two block slices afterwards, their first n places filled from the file
unfoldable pub load_corrections : List ℕ → List ℤ → List ℕ → List ℤ
load_corrections file corrections uncertainties =
    passed_or (load_checks file (length corrections) (length uncertainties))
    (filled (correction file) (entry_count file) corrections)
    (λ _. corrections)

unfoldable pub load_uncertainties : List ℕ → List ℤ → List ℕ → List ℕ
load_uncertainties file corrections uncertainties =
    passed_or (load_checks file (length corrections) (length uncertainties))
    (filled (uncertainty file) (entry_count file) uncertainties)
    (λ _. uncertainties)

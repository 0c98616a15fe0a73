-- A slice to which the numbers of a file's entries are written: Section 8.4.
use Rattle.std.specs.Prelude.{Bool, ◌&&◌, cond, List, ℕ, eqb, leb, length}
use Rattle.sums.specs.Fill.{filled}
use Rattle.file.specs.File.{file_length}

-- Section 8.4: whether the file has the length for n entries, and a slice of this length has room for them
unfoldable pub entries_fit : List ℕ → ℕ → ℕ → Bool
entries_fit file n room = eqb (length file) (file_length n) && leb n room

-- Section 8.4: a slice with its first n places filled, where they fit
unfoldable pub written : {A : Type 0} → List ℕ → ℕ → (ℕ → A) → List A → List A
written file n number_of slice = cond (entries_fit file n (length slice)) (filled number_of n slice) slice

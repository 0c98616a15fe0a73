-- What is written, by the lengths of file and slice.
use mathlib.Core.Bool.{true}
use mathlib.Core.List.{List}
use mathlib.Core.Path.{◌≡◌}
use Prim.Native.Nat.{◌≤◌, ℕ}
use borrow.Author.Tests.{eq-eqb, le-leb}
use lib.ListN.{length}
use Rattle.sums.specs.Fill.{filled}
use Rattle.file.specs.File.{file_length}
use Rattle.file_entries.specs.Written.{entries_fit, written}

module _ {A : Type 0} (file : List ℕ) (n : ℕ) (number_of : ℕ → A) (slice : List A) where
  -- where the file has the length for n and there is room, all n numbers
  pub all-written : length file ≡ file_length n → n ≤ length slice
      → (true ≡ entries_fit file n (length slice))
      × (filled number_of n slice ≡ written file n number_of slice)
  unfolding written entries_fit
  all-written e room =
      let l = eq-eqb (length file) (file_length n) e in
      let r = le-leb n (length slice) room in
      (simp (l, r), simp (l, r))

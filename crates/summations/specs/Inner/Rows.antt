-- The second half row by row, as the code takes it.
use Rattle.std.specs.Prelude.{List, ◌≡◌, ◌-◌, ◌<◌, ◌≤◌, ℕ, ◌+ℤ◌, pos, ℤ, get_or}
use Rattle.sums.specs.Fill.{filled}
use Rattle.sums.specs.Word.{word}

-- numbers that the net holds at its places before a, and that are sums at those from a up to e: each of its
-- entry and of the number that `prior` finds among those before it
pub record RowSums (prior : (ℕ → ℕ) → ℕ → ℕ) (a e : ℕ) (work : List ℤ) (net : List ℕ) : Type 0 where
  pub number : ℕ → ℕ
  pub start : net ≡ filled number a net
  pub sums : (i : ℕ) → a ≤ i → i < e → number i ≡ word (pos (prior number i) +ℤ get_or work i (pos 0))

-- no number, where one step back of the direction leaves the box
abbrev pub none : (ℕ → ℕ) → ℕ → ℕ
none f i = 0

-- the number so many places before
abbrev pub places_back : ℕ → (ℕ → ℕ) → ℕ → ℕ
places_back back f i = f (i - back)

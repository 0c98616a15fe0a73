-- Text as bytes, numbers in base ten, items and the byte after each: Section 13.2.
use Rattle.std.specs.Prelude.{cond, List, [], ◌++◌, ◌∷◌, ◌%◌, ◌+◌, ◌/◌, suc, zero, ℕ, ltb}

-- Section 13.2: a number in base ten, the highest digit first, by at most k divisions
unfoldable pub decimal_by : ℕ → ℕ → List ℕ
decimal_by zero n = []
decimal_by (suc k) n = cond (ltb n 10) ((48 + n) ∷ []) (decimal_by k (n / 10) ++ ((48 + n % 10) ∷ []))

-- Section 13.2: a number in base ten; it has no more digits than n + 1
unfoldable pub decimal : ℕ → List ℕ
decimal n = decimal_by (suc n) n

abbrev pub blank : ℕ
blank = 32

abbrev pub newline : ℕ
newline = 10

-- Section 13.2: a number, and the blank or newline after it
unfoldable pub item : ℕ → ℕ → List ℕ
item n end = decimal n ++ (end ∷ [])

-- three numbers with a blank between, and the byte after them
unfoldable pub triple : ℕ → ℕ → ℕ → ℕ → List ℕ
triple a b c end = item a blank ++ item b blank ++ item c end

-- f 0, .., f (n − 1), one after the other
unfoldable pub joined : (ℕ → List ℕ) → ℕ → List ℕ
joined f zero = []
joined f (suc n) = joined f n ++ f n

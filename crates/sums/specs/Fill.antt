-- Lists that are given by their number at each index, as a filling loop makes them.
use Rattle.std.specs.Prelude.{List, [], ◌++◌, ◌∷◌, suc, zero, ℕ, pos, ℤ, drop, get_or}

-- f 0, .., f (n − 1)
unfoldable pub tabulate : {A : Type 0} → (ℕ → A) → ℕ → List A
tabulate f zero = []
tabulate f (suc n) = tabulate f n ++ (f n ∷ [])

-- the list d with f's values in its first n places, the rest untouched
unfoldable pub filled : {A : Type 0} → (ℕ → A) → ℕ → List A → List A
filled f n d = tabulate f n ++ drop n d

-- the number of a list at an index; 0 past its end
abbrev pub number_at : List ℕ → ℕ → ℕ
number_at l i = get_or l i 0

abbrev pub signed_at : List ℤ → ℕ → ℤ
signed_at l i = get_or l i (pos 0)

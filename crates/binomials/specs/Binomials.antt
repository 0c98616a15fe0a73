-- The binomials of the weights: Section 11.1.
use Rattle.std.specs.Prelude.{List, [], ◌≡◌, ◌≤◌, suc, ℕ, get_or}
use Rattle.sums.specs.Coefficient.{binomial}
use Rattle.sums.specs.Fill.{filled, tabulate}

-- Section 11.1: C(n, k) at place k of row n, for n up to 9, with zeros behind
unfoldable pub binomial_table : List (List ℕ)
binomial_table = tabulate (λ n. filled (binomial n) (suc n) (tabulate (λ k. 0) 10)) 10

-- C(n, k) at place k of row n
pub record Binomials (b : List (List ℕ)) : Type 0 where
  pub is : (n k : ℕ) → n ≤ 9 → k ≤ n → get_or (get_or b n []) k 0 ≡ binomial n k
  pub small : (n k : ℕ) → n ≤ 9 → k ≤ n → get_or (get_or b n []) k 0 ≤ 126

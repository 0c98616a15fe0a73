-- The table holds the binomials, which are at most 126.
use mathlib.Core.Bool.{true}
use mathlib.Core.List.{List, []}
use mathlib.Core.Path.{◌∙◌, ◌≡◌, ap, refl}
use Prim.Native.Nat.{◌≤◌, suc, ℕ}
use native.Mathlib.Omega.{arith}
use borrow.Author.Tests.{leb-true}
use lib.Dec.{leb}
use lib.ListN.{get_or}
use Rattle.sums.proofs.Fill.{filled_at, tabulate-at}
use Rattle.sums.proofs.Search.{all-at}
use Rattle.sums.specs.Coefficient.{binomial, factorial}
use Rattle.sums.specs.Fill.{tabulate}
use Rattle.sums.specs.Search.{all_to}
use Rattle.binomials.specs.Binomials.{Binomials, binomial_table}

few : all_to 10 (λ n. all_to (suc n) (λ k. leb (binomial n k) 126)) ≡ true
unfolding all_to binomial factorial
few = refl

-- the table has C(n, k), which is at most 126, at place k of row n
pub table-held : Binomials binomial_table
unfolding binomial_table
table-held =
    let at : (n k : ℕ) → n ≤ 9 → k ≤ n → get_or (get_or binomial_table n []) k 0 ≡ binomial n k
    = λ n k h l.
    ap (λ (row : List ℕ). get_or row k 0) (tabulate-at _ 10 n [] (omega arith))
    ∙ filled_at (binomial n) (suc n) (tabulate (λ i. 0) 10) k 0 (omega arith) in
    record {
      is = at;
      small = λ n k h l.
          rw (at n k h l)
          (leb-true _ _ (all-at (suc n) _ (all-at 10 _ few n (omega arith)) k (omega arith)));
    }

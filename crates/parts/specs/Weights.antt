-- Weights of local places, as the functions that make them promise and ask for them.
use Rattle.std.specs.Prelude.{◌≡◌, ◌*◌, ◌-◌, ◌^◌, ◌≤◌, ℕ}
use Rattle.sums.specs.Coefficient.{binomial}
use Rattle.divisor_checks.specs.Divisor.{limit, scale}
use Rattle.axis_order.specs.Weights.{weight_sum}
use Rattle.axis_order.specs.declared.Placing.{Placing}
use Rattle.answers.specs.Bernstein.{term_weight}
use Rattle.tetrahedron.specs.LocalPlaces.{local_at}
use Rattle.tetrahedron.specs.declared.local.LocalPlace.{LocalPlace}

-- C(n, k) x^(n − k), with x's powers as a function
abbrev pub factor : (ℕ → ℕ) → ℕ → ℕ → ℕ
factor x n k = binomial n k * x (n - k)

-- the weights of a placing are small enough for degree m
pub record Scaled (m : ℕ) (q : Placing) : Type 0 where
  pub degree : m ≤ 9
  pub some : 1 ≤ weight_sum q
  pub scaled : scale m (weight_sum q) ≤ limit

-- s ≤ r ≤ p ≤ m
pub record WithinDegree (m : ℕ) (l : LocalPlace) : Type 0 where
  pub third : l.s ≤ l.r
  pub second : l.r ≤ l.p
  pub first : l.p ≤ m

-- x is the powers of l, as far as the n-th
abbrev pub Powers : ℕ → ℕ → (ℕ → ℕ) → Type 0
Powers n l x = (i : ℕ) → i ≤ n → x i ≡ l ^ i

-- the powers of L0 to L3
pub record Tables (m : ℕ) (q : Placing) (x0 x1 x2 x3 : ℕ → ℕ) : Type 0 where
  pub of0 : Powers m q.l0 x0
  pub of1 : Powers m q.l1 x1
  pub of2 : Powers m q.l2 x2
  pub of3 : Powers m q.l3 x3

-- the weight of the local place with number t
unfoldable pub weight_at : ℕ → Placing → ℕ → ℕ
weight_at m q t =
    let l = local_at t in term_weight m q (m - l.p) (l.p - l.r) (l.r - l.s) l.s

-- Section 6.1: an order to which neither 1 nor 2 applies.
use Rattle.std.specs.Prelude.{List, ◌≡◌, ◌≤◌, ℕ, get_or, length}
use Rattle.sums.specs.Search.{first, nowhere}
use Rattle.orders.specs.Order.{bad_byte}

pub record GoodOrder (order : List ℕ) : Type 0 where
  pub short : length order ≤ 8
  pub good : first (length order) (λ i. bad_byte (get_or order i 0)) ≡ nowhere

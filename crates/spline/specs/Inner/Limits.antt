-- Section 2.2: the limits on multiplicities, as facts about numbers.
use Rattle.std.specs.Prelude.{◌+◌, ◌≤◌, ℕ}
use Rattle.spline.specs.Multiplicities.{Multiplicities}

-- each is at least 1, and their sum at most n
pub record Limits (v : Multiplicities) (n : ℕ) : Type 0 where
  pub least1 : 1 ≤ v.v1
  pub least2 : 1 ≤ v.v2
  pub least3 : 1 ≤ v.v3
  pub least4 : 1 ≤ v.v4
  pub sum : v.v1 + v.v2 + v.v3 + v.v4 ≤ n

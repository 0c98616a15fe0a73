-- Coordinates as the first half goes through them: cells, pivots and lowered coordinates in natural numbers.
use Rattle.std.specs.Prelude.{◌%◌, ◌*◌, ◌+◌, ◌-◌, ◌/◌, suc, ℕ}
use Rattle.spline.specs.Place.{Direction, a1, a2, a3, along, diagonal}
use Rattle.spline.specs.Rule.{lower_above}
use Rattle.cells.specs.declared.Cell.{Cell}

-- the remainder that the others are compared with; for direction 4 a number that none exceeds
abbrev pub pivot_of : Direction → ℕ → ℕ → ℕ → ℕ → ℕ
pivot_of (along a1) u1 u2 u3 top = u1
pivot_of (along a2) u1 u2 u3 top = u2
pivot_of (along a3) u1 u2 u3 top = u3
pivot_of diagonal u1 u2 u3 top = top

-- of a coordinate at degree g + 1: g × k, for its cell k, and its remainder u
abbrev pub cell_of : ℕ → ℕ → Cell
cell_of g n = record { base = g * (n / suc g); u = n % suc g }

-- g × k + w, where k and u are those of x at degree g + 1
unfoldable pub lowered_coordinate : ℕ → ℕ → ℕ → ℕ
lowered_coordinate g p x = g * (x / suc g) + lower_above p (x % suc g)

-- The lowered coordinate one step of the direction before x. On an axis that the direction moves along t is
-- g, and x + g is a cell up from there, since x − 1 may be −1; elsewhere t is 0.
abbrev pub near_coordinate : ℕ → ℕ → ℕ → ℕ → ℕ
near_coordinate g p t x = lowered_coordinate g p (x + t) - t

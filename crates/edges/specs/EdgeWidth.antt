-- The places of a row on the edge of a box, as the second half takes them: Section 6.3.
use Rattle.std.specs.Prelude.{cond, ℕ, ltb}
use Rattle.shape.specs.declared.Vector.{Vector}

-- how many of the w1 places of the row (y, z) these are: all where one step of the vector back leaves the box
-- along y or z, else the first ones
unfoldable pub edge_width : Vector → ℕ → ℕ → ℕ → ℕ
edge_width v w1 y z = cond (ltb y v.y) w1 (cond (ltb z v.z) w1 v.x)

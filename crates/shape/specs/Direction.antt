-- The vectors of directions: Section 2.1.
use Rattle.std.specs.Prelude.{cond, ℕ}
use Rattle.spline.specs.Place.{Axis, Direction, a1, a2, a3, moves}
use Rattle.shape.specs.declared.Vector.{Vector}

-- a direction's vector on an axis
abbrev pub component : Direction → Axis → ℕ
component d b = cond (moves d b) 1 0

-- a direction's vector as the code holds it
abbrev pub vector_of : Direction → Vector
vector_of d = record { x = component d a1; y = component d a2; z = component d a3 }

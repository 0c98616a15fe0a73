-- What the halves of a repeat ask of boxes and slices: Section 6.3.
use Rattle.std.specs.Prelude.{Bool, ◌&&◌, ℕ, ltb}
use Rattle.shape.specs.Shape.{held_in}
use Rattle.shape.specs.declared.Shape.{Shape}

-- both boxes are within the limits, the older one of a degree that can still grow, and the slices hold them
unfoldable pub differences_fit : Shape → Shape → ℕ → ℕ → Bool
differences_fit old new net_length work_length =
    held_in old net_length && held_in new work_length && ltb old.m 9

-- the box is within the limits, and both slices hold it
unfoldable pub sums_fit : Shape → ℕ → ℕ → Bool
sums_fit s net_length work_length = held_in s net_length && held_in s work_length

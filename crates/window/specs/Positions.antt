-- Positions in a window, counted from its lowest entry, in the order of the block's index: Section 10.5.
use Rattle.std.specs.Prelude.{cond, ◌+◌, ℕ, ltb}
use Rattle.window.specs.declared.position.Position.{Position}

abbrev pub position : ℕ → ℕ → ℕ → Position
position x y z = record { x = x; y = y; z = z }

-- the next one in the order of the block's index, in a window of extents e1, e2
unfoldable pub position_after : Position → ℕ → ℕ → Position
position_after at e1 e2 =
    cond (ltb (at.x + 1) e1) (position (at.x + 1) at.y at.z)
    (cond (ltb (at.y + 1) e2) (position 0 (at.y + 1) at.z) (position 0 0 (at.z + 1)))

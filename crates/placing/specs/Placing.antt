-- Where a point lies in a unit's block: its cell, and its placing. Section 9.
use Rattle.std.specs.Prelude.{ℕ, ℤ}
use Rattle.spline.specs.Place.{Axis, on_axes}
use Rattle.unit.specs.declared.Unit.{Unit}
use Rattle.coordinates.specs.Coordinates.{distance, located}
use Rattle.axis_order.specs.Weights.{placing_on}
use Rattle.axis_order.specs.declared.Placing.{Placing}

-- Section 9.1: the cell of a point in a unit's block, by its distances from the origin
abbrev pub block_cells : Unit → ℕ → ℕ → ℕ → ℕ → Axis → ℕ
block_cells u x y z D =
    on_axes (located x D u.n1).cell (located y D u.n2).cell (located z D u.n3).cell

-- Section 9.1: the cell of X, Y, Z over D in a unit's block
abbrev pub cells : Unit → ℤ → ℤ → ℤ → ℕ → Axis → ℕ
cells u x y z D =
    block_cells u (distance x u.o1 D) (distance y u.o2 D) (distance z u.o3 D) D

-- Section 9.4: the placing of a point in a unit's block, by its distances from the origin
abbrev pub block_placing : Unit → ℕ → ℕ → ℕ → ℕ → Placing
block_placing u x y z D = placing_on (located x D u.n1) (located y D u.n2) (located z D u.n3) D

-- Section 9.4: the placing of X, Y, Z over D in a unit's block
unfoldable pub placing : Unit → ℤ → ℤ → ℤ → ℕ → Placing
placing u x y z D =
    block_placing u (distance x u.o1 D) (distance y u.o2 D) (distance z u.o3 D) D

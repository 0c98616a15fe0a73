-- What fits the lines: the widths, numbers and slices that the code writes lines for.
use Rattle.std.specs.Prelude.{List, ◌*◌, ◌≤◌, ℕ, length}
use Rattle.spline.specs.Box.{places, width}
use Rattle.spline.specs.Inner.Limits.{Limits}
use Rattle.unit.specs.Unit.{net_of}
use Rattle.unit.specs.declared.Unit.{Unit}

-- a box whose coordinates have two digits, and a slice that holds it
pub record Lines (w1 w2 w3 : ℕ) (net : List ℕ) : Type 0 where
  pub most1 : w1 ≤ 91
  pub most2 : w2 ≤ 91
  pub most3 : w3 ≤ 91
  pub held : w1 * w2 * w3 ≤ length net

-- a unit within the limits, whose net a slice holds
pub record Listed (u : Unit) (net : List ℕ) : Type 0 where
  pub limits : Limits (net_of u) 12
  pub held : places (width (net_of u)) ≤ length net

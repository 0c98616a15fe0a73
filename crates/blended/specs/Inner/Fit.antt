-- What the checks of a blending call have settled when a placing is blended.
use Rattle.std.specs.Prelude.{true, ◌≡◌, ◌≤◌, ℕ}
use Rattle.spline.specs.Box.{places, width}
use Rattle.unit.specs.Unit.{holds_block, holds_net, net_of, sizes}
use Rattle.unit.specs.declared.Unit.{Unit}
use Rattle.cell_checks.specs.Inside.{inside}
use Rattle.axis_order.specs.Inner.Ranking.{Axes}
use Rattle.axis_order.specs.Weights.{placing_cell}
use Rattle.axis_order.specs.declared.Placing.{Placing}

pub record Fit (u : Unit) (net_length corrections_length uncertainties_length : ℕ) (q : Placing)
    : Type 0 where
  pub net_held : holds_net u ≡ true
  pub block_held : holds_block u ≡ true
  pub net_long : places (width (net_of u)) ≤ net_length
  pub corrections_long : places (sizes u) ≤ corrections_length
  pub uncertainties_long : places (sizes u) ≤ uncertainties_length
  pub point_inside : inside (net_of u) (sizes u) (placing_cell q) ≡ true
  pub axes : Axes q.p q.r q.s

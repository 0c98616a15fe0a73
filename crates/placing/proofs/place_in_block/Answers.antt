-- The point is located once on each axis, and the test of the cell and the placing go by that.
use mathlib.Core.Path.{◌∙◌, ◌≡◌, ap, sym}
use Rattle.spline.specs.Place.{on_axes}
use Rattle.unit.specs.Unit.{net_of, sizes}
use Rattle.coordinates.specs.Coordinates.{located}
use Rattle.cell_checks.specs.Inside.{cell_check}
use Rattle.axis_order.specs.Weights.{placing_on}
use Rattle.placing.proofs.HandedOn.{alike}
use Rattle.placing.specs.Placing.{block_cells}
use Rattle.placing.proofs.place_in_block.Goals as goal
use Rattle.placing.proofs.place_in_block.Goals.{After-check_cell, After-locate-c}
use Rattle.std.specs.Prelude.{Ok}

-- the point is located on each axis
module _ (c : After-locate-c) where
  first-is : (let a = c.args in
      c.locate-a.result ≡ located a.x a.divisor a.unit.n1)
  first-is = c.locate-a.ensures

  second_is : (let a = c.args in
      c.locate-b.result ≡ located a.y a.divisor a.unit.n2)
  second_is = c.locate-b.ensures

  third-is : (let a = c.args in
      c.locate-c.result ≡ located a.z a.divisor a.unit.n3)
  third-is = c.locate-c.ensures

-- and its cell is looked at
cell-is : (c : After-check_cell) → (let a = c.args in
    c.check_cell.result
    ≡ cell_check (net_of a.unit) (sizes a.unit) (block_cells a.unit a.x a.y a.z a.divisor))
cell-is c =
    let u = c.args.unit in
    c.check_cell.ensures
    ∙ alike (λ a b c. cell_check (net_of u) (sizes u) (on_axes a.cell b.cell c.cell))
    (first-is c.before) (second_is c.before) (third-is c.before)

pub returns : goal.returns
returns c =
    simp (sym (cell-is (goal.at.returns c).After-check_cell) ∙ c.in_ok-check_cell.was)
    (ap Ok
    (c.placing_of.ensures
    ∙ alike (λ x y z. placing_on x y z c.args.divisor) (first-is (goal.at.returns c).After-locate-c) (second_is (goal.at.returns c).After-locate-c) (third-is (goal.at.returns c).After-locate-c)))

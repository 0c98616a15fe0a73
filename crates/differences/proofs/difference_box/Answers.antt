-- Row by row, the places before the row at hand are written, and the cells of y and z have run along.
use mathlib.Core.Path.{ap}
use native.Mathlib.Omega.{arith}
use Rattle.spline.specs.Build.{direction}
use Rattle.spline.specs.Place.{a2, a3}
use Rattle.shape.proofs.Rows.{layer-filled, none_filled, row-filled, self-filled}
use Rattle.shape.specs.declared.Vector.{Vector}
use Rattle.differences.proofs.DifferenceRows.{cell-first, cell-next}
use Rattle.differences.proofs.difference_box.Goals as goal

pub loop-z-init : goal.loop-z-init
loop-z-init c =
    let first = c.first_cell-cz in
    let step = ap (λ (v : Vector). v.z) c.vector_of-v.ensures in
    let d = direction c.args.d in
    (cell-first d a3 c.args.old.m first.result _ step first.ensures.at_any_step, none_filled)

pub difference_row-requires-clause-work_value : goal.difference_row-requires-clause-work_value
difference_row-requires-clause-work_value c =
    self-filled (c.loop-y.invariant.1 c.args.work.now c.loop-z.invariant.1)

pub loop-y-preserved : goal.loop-y-preserved
loop-y-preserved c = (
  cell-next (direction c.args.d) a2 c.args.old.m c.loop-y.cy c.next_cell-cy.result c.loop-y.y
      c.loop-y.invariant.0 c.next_cell-cy.ensures,
  λ base h. row-filled (c.loop-y.invariant.1 base h) (omega arith) (omega arith)
      (omega (arith, h.same, c.loop-z.invariant.1.same, c.requires.2))
      _ c.difference_row.ensures,
)

pub loop-z-preserved : goal.loop-z-preserved
loop-z-preserved c =
    let t = c.loop-y in (
      cell-next (direction c.args.d) a3 c.args.old.m c.loop-z.cz c.next_cell-cz.result c.loop-z.z
          c.loop-z.invariant.0 c.next_cell-cz.ensures,
      layer-filled (t.invariant.1 _ c.loop-z.invariant.1) c.loop-y-test.false (omega arith),
    )

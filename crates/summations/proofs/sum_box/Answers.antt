-- Row by row, the places before the row at hand are summed.
use native.Mathlib.Omega.{arith}
use Rattle.shape.proofs.Rows.{none_filled, row-filled, self-filled}
use Rattle.summations.proofs.sum_box.Goals as goal

pub loop-z-init : goal.loop-z-init
loop-z-init c = none_filled

pub sum_row-requires-clause-net_value : goal.sum_row-requires-clause-net_value
sum_row-requires-clause-net_value c = self-filled (c.loop-y.invariant c.args.net.now c.loop-z.invariant)

pub loop-y-preserved : goal.loop-y-preserved
loop-y-preserved c base h =
    row-filled (c.loop-y.invariant base h) (omega arith) (omega arith)
    (omega (arith, h.same, c.loop-z.invariant.same, c.requires.1))
    _ c.sum_row.ensures

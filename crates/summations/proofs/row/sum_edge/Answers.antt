-- Where no number stands before a place, its own is what 32 bits hold of the entry.
use mathlib.Core.Path.{refl}
use native.Mathlib.Omega.{arith}
use Rattle.summations.proofs.RowLoops.{turned}
use Rattle.summations.proofs.row.sum_edge.Goals as goal

pub loop-i-preserved : goal.loop-i-preserved
loop-i-preserved c r =
    let p = c.put in
    turned r (c.loop-i.invariant r) (omega arith) (omega arith) 0 p.result refl p.ensures.value
    _ p.ensures.net_after (omega arith)

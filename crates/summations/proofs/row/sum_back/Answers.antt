-- Each turn adds the entry to a number that was written before.
use Prim.Native.Nat.{◌-◌}
use native.Mathlib.Omega.{arith}
use Rattle.summations.proofs.RowLoops.{found, turned}
use Rattle.summations.proofs.row.sum_back.Goals as goal

pub loop-i-preserved : goal.loop-i-preserved
loop-i-preserved c r =
    let p = c.put in
    let before = found r (c.loop-i.invariant r) (c.loop-i.i - c.args.back) (omega arith) in
    turned r (c.loop-i.invariant r) (omega arith) (omega arith) _ p.result before p.ensures.value
    _ p.ensures.net_after (omega arith)

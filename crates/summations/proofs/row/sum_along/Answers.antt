-- The number before stays in t; each turn adds the entry to it.
use mathlib.Core.Path.{◌∙◌, ◌≡◌, ap, sym}
use Prim.Native.Nat.{◌+◌, ◌-◌}
use native.Mathlib.Omega.{arith}
use Rattle.summations.proofs.RowLoops.{found, summed, turned}
use Rattle.summations.proofs.row.sum_along.Goals as goal

pub loop-i-init : goal.loop-i-init
loop-i-init c r = (r.start, found r r.start (c.args.a - 1) (omega arith))

pub loop-i-preserved : goal.loop-i-preserved
loop-i-preserved c r =
    let l = c.loop-i in
    let p = c.put-t in
    let held = l.invariant r in
    let e : l.i + 1 - 1 ≡ l.i = omega arith in (
      turned r held.0 (omega arith) (omega arith) _ p.result held.1 p.ensures.value
          _ p.ensures.net_after (omega arith),
      summed r held.0 (omega arith) (omega arith) _ p.result held.1 p.ensures.value ∙ ap r.number (sym e),
    )

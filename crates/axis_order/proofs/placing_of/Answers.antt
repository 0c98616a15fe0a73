-- The remainders fall in the order of the axes, so no weight is below 0.
use mathlib.Core.Path.{refl}
use Prim.Native.Nat.{◌+◌}
use native.Mathlib.Omega.{arith}
use Rattle.axis_order.proofs.Ranks.{Falling, falling}
use Rattle.axis_order.proofs.placing_of.Goals as goal
use Rattle.axis_order.proofs.placing_of.Goals.{After-rank-t}

-- the axes have been ranked
falls : (c : After-rank-t) → (let a = c.args in
    Falling (a.x.remainder + a.y.remainder + a.z.remainder) c.rank-t.result)
falls c = rw c.rank-t.ensures (falling _ _ _ _ (omega arith) (omega arith) (omega arith))

pub overflow_sub-result : goal.overflow_sub-result
overflow_sub-result c = omega (arith, falls (goal.at.overflow_sub-result c).After-rank-t)

pub overflow_sub-result-2 : goal.overflow_sub-result-2
overflow_sub-result-2 c = omega (arith, falls (goal.at.overflow_sub-result-2 c).After-rank-t)

pub returns : goal.returns
returns c =
    rw (c.saturating_sub.ensures, c.rank-t.ensures) refl

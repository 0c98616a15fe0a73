-- A degree within its bound and two bytes give a width that fits.
use mathlib.Core.Path.{refl}
use Prim.Native.Nat.{◌*◌, ◌+◌, ◌≤◌}
use native.Mathlib.Nat.{mul-le-mul}
use native.Mathlib.Omega.{arith}
use Rattle.shape.proofs.width_of.Goals as goal
use Rattle.shape.proofs.width_of.Goals.{Start}

bound : (c : Start) → c.args.m * (c.args.v + c.args.v4) ≤ 518670
bound c =
    let a = c.args in
    let m : a.m ≤ 1017 = omega arith in
    let e : a.v + a.v4 ≤ 510 = omega arith in
    mul-le-mul m e

pub overflow_mul-result : goal.overflow_mul-result
overflow_mul-result c = omega (arith, bound (goal.at.overflow_mul-result c).Start)

pub overflow_add-result-2 : goal.overflow_add-result-2
overflow_add-result-2 c = omega (arith, bound (goal.at.overflow_add-result-2 c).Start)

pub returns : goal.returns
returns c = (refl, omega (arith, bound (goal.at.returns c).Start))

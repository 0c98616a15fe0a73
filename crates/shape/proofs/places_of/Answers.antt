-- Three widths within their bounds have a product that fits.
use mathlib.Core.Path.{ap}
use Prim.Native.Nat.{◌*◌}
use native.Mathlib.Nat.{mul-le-mul}
use native.Mathlib.Omega.{arith}
use Rattle.sums.proofs.Places.{box-le}
use Rattle.shape.specs.declared.Shape.{Shape}
use Rattle.shape.proofs.places_of.Goals as goal

pub overflow_mul-result : goal.overflow_mul-result
overflow_mul-result c =
    let e = c.shape_of-box_of.ensures in
    omega (arith, mul-le-mul e.w1_bound.0 e.w1_bound.1)

pub overflow_mul-result-2 : goal.overflow_mul-result-2
overflow_mul-result-2 c =
    let e = c.shape_of-box_of.ensures in
    omega (arith, box-le e.w1_bound.0 e.w1_bound.1 e.w1_bound.2)

pub returns : goal.returns
returns c = ap (λ (s : Shape). s.w1 * s.w2 * s.w3) c.shape_of-box_of.ensures.value

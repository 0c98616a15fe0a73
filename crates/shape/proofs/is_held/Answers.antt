-- Widths that passed the first test have a product that fits.
use mathlib.Core.Path.{◌∙◌, sym}
use native.Mathlib.Nat.{mul-le-mul}
use native.Mathlib.Omega.{arith}
use Rattle.sums.proofs.Places.{box-le}
use Rattle.shape.proofs.Shapes.{boxed-limits}
use Rattle.shape.proofs.is_held.Goals as goal

pub overflow_mul-result : goal.overflow_mul-result
overflow_mul-result c =
    let b = boxed-limits c.args.s (sym c.is_boxed.ensures ∙ c.if-is_boxed.true) in
    omega (arith, mul-le-mul b.most1 b.most2)

pub overflow_mul-result-then-is_boxed : goal.overflow_mul-result-then-is_boxed
overflow_mul-result-then-is_boxed c =
    let b = boxed-limits c.args.s (sym c.is_boxed.ensures ∙ c.if-is_boxed.true) in
    omega (arith, box-le b.most1 b.most2 b.most3)

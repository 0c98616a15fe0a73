-- Both coordinates are lowered by the remainder, and their row is looked up.
use mathlib.Core.Path.{◌∙◌, ap₂}
use Prim.Native.Nat.{◌+◌, ℕ}
use native.Mathlib.Omega.{arith}
use lib.IntN.{pos}
use Rattle.spline.proofs.Lowering.{lower_above-le}
use Rattle.shape.specs.Shape.{widths}
use Rattle.differences.specs.Inner.Rows.{row_end}
use Rattle.differences.proofs.row.lowered_end.Goals as goal

pub overflow_add-y : goal.overflow_add-y
overflow_add-y c = omega (arith, c.lower.ensures, lower_above-le c.args.u c.args.y.u, c.requires.1)

pub overflow_add-z : goal.overflow_add-z
overflow_add-z c = omega (arith, c.lower-2.ensures, lower_above-le c.args.u c.args.z.u, c.requires.2)

pub returns : goal.returns
returns c =
    let q = c.args in
    let end : ℕ → ℕ → ℕ = λ m n. row_end (widths q.s) (pos (q.y.base + m)) (pos (q.z.base + n)) in
    c.end_of.ensures
    ∙ ap₂ end c.lower.ensures c.lower-2.ensures

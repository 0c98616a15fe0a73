-- The three cases are those of the definition, and a row of a box ends within the box's places.
use mathlib.Core.Path.{sym}
use Prim.Native.Nat.{◌*◌, ◌+◌, ◌≤◌, ℕ}
use native.Mathlib.Omega.{arith}
use lib.IntN.{pos}
use Rattle.shape.specs.Shape.{widths}
use Rattle.shape.proofs.Rows.{row-bounds}
use Rattle.differences.proofs.RowEnds.{end-above, end-inside, end-right}
use Rattle.differences.proofs.rows.end_of.Goals as goal
use Rattle.differences.proofs.rows.end_of.Goals.{Else-s-z}

-- in the box
module _ (c : Else-s-z) where
  abbrev w1 : ℕ
  w1 = c.args.s.w1

  abbrev w2 : ℕ
  w2 = c.args.s.w2

  abbrev y : ℕ
  y = c.args.y

  abbrev z : ℕ
  z = c.args.z

  bound : (w2 * z ≤ 8281) × (w1 * (y + w2 * z) ≤ 761852)
  bound = row-bounds y z w1 w2 (omega arith) (omega arith) (omega arith) (omega arith)

pub returns-then-w2-y : goal.returns-then-w2-y
returns-then-w2-y c =
    let a = c.args in
    sym (end-right (widths a.s) a.y a.z (omega arith))

pub returns-then-s-z : goal.returns-then-s-z
returns-then-s-z c =
    let a = c.args in
    sym (end-above (widths a.s) (pos a.y) a.z (omega arith))

pub overflow_mul-result : goal.overflow_mul-result
overflow_mul-result c = omega (arith, bound (goal.at.overflow_mul-result c).Else-s-z)

pub overflow_add-result : goal.overflow_add-result
overflow_add-result c = omega (arith, bound (goal.at.overflow_add-result c).Else-s-z)

pub overflow_mul-result-2 : goal.overflow_mul-result-2
overflow_mul-result-2 c = omega (arith, bound (goal.at.overflow_mul-result-2 c).Else-s-z)

pub overflow_add-result-2 : goal.overflow_add-result-2
overflow_add-result-2 c = omega (arith, bound (goal.at.overflow_add-result-2 c).Else-s-z)

pub returns : goal.returns
returns c =
    let a = c.args in
    sym (end-inside (widths a.s) a.y a.z (omega arith) (omega arith))

-- Each turn writes the column that begins at x, whose places have the remainder u; from one turn to the next
-- the columns before x are written.
use Prim.Native.Nat.{◌+◌, ℕ}
use native.Mathlib.Omega.{arith}
use lib.IntN.{ℤ}
use Rattle.shape.specs.Shape.{widths}
use Rattle.differences.proofs.Columns.{Written, column-difference, written_all, written_next}
use Rattle.differences.specs.Inner.Rows.{along_difference}
use Rattle.differences.proofs.row.difference_along.Goals as goal
use Rattle.differences.proofs.row.difference_along.Goals.{After-difference_column}

module _ (c : After-difference_column) where
  abbrev g : ℕ
  g = c.args.old.m

  -- the difference at a place of the row
  abbrev number_at : ℕ → ℤ
  number_at x = along_difference g (widths c.args.old) c.args.net.now c.args.y c.args.z x

  -- the columns that a turn leaves
  written
      : Written g number_at c.args.i c.args.w1 (c.loop-x.x + 1) c.args.work.now c.difference_column.new.work
  written =
      let l = c.loop-x in
      let is = column-difference g l.u l.a l.x l.invariant.0 l.invariant.2 (widths c.args.old)
      c.args.net.now c.args.y c.args.z in
      written_next g number_at c.args.i c.args.w1 c.args.work.now l.work _ _ l.x (omega arith) is
      l.invariant.4 (c.difference_column.ensures _ _ c.lowered_end-r.ensures)

pub loop-x-preserved : goal.loop-x-preserved
loop-x-preserved c = (
  omega arith,
  omega arith,
  omega arith,
  omega (arith, c.loop-x.invariant.3, c.difference_column.auto),
  written (goal.at.loop-x-preserved c).After-difference_column,
)

pub returns-2 : goal.returns-2
returns-2 c =
    let q = (goal.at.returns-2 c).After-difference_column in
    λ f h. written_all (g q) (number_at q) c.args.i c.args.w1 c.args.work.now _ (c.loop-x.x + 1)
    (omega arith) (omega (arith, c.loop-x.invariant.3, c.difference_column.auto)) c.requires.w1_in_bounds.0
    (written q) f h

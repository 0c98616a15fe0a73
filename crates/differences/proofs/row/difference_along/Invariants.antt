-- Each turn writes the column that begins at x, whose places have the remainder u; from one turn to the next
-- the columns before x are written.
use mathlib.Core.Path.{◌≡◌}
use Prim.Native.Nat.{◌*◌, ◌+◌, ◌≤◌, suc}
use lib.ListN.{length}
use Rattle.shape.specs.Shape.{widths}
use Rattle.differences.proofs.Columns.{Written}
use Rattle.differences.specs.Inner.Rows.{along_difference}
use Rattle.differences.proofs.row.difference_along.Given as goal

abbrev pub invariant-loop-x : goal.invariant-loop-x
invariant-loop-x l =
    (l.u ≤ l.g) × (l.a ≤ l.x) × (l.g + suc l.g * l.a ≡ l.u + l.g * l.x)
    × (length l.work ≡ length l.initial.work)
    × Written l.g (along_difference l.g (widths l.old) l.net l.y l.z) l.i l.w1 l.x l.initial.work l.work

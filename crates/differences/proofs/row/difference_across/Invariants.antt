-- The lowered coordinate a runs along with x; each turn writes the difference of the two numbers read at it.
use mathlib.Core.Path.{◌≡◌}
use Prim.Native.Nat.{◌*◌, ◌+◌, ◌<◌, ◌≤◌, suc, ℕ}
use lib.IntN.{ℤ}
use lib.ListN.{length}
use Rattle.sums.specs.Fill.{filled}
use Rattle.shape.specs.Shape.{widths}
use Rattle.cells.specs.Coordinates.{near_coordinate}
use Rattle.differences.specs.Inner.Rows.{step_difference}
use Rattle.differences.proofs.row.difference_across.Given as goal

abbrev pub invariant-loop-x : goal.invariant-loop-x
invariant-loop-x l =
    (l.r ≤ l.g) × (l.a ≤ l.x)
    × (l.x + l.t.x + l.r + suc l.g * (l.a + l.t.x) ≡ l.p + suc l.g * (l.x + l.t.x))
    × (length l.work ≡ length l.initial.work)
    × ((f : ℕ → ℤ)
    → ((x : ℕ) → x < l.w1
    → f (l.i + x) ≡ step_difference (widths l.old) l.net l.t (near_coordinate l.g l.p l.t.x x) l.b l.c)
    → l.initial.work ≡ filled f l.i l.initial.work → l.work ≡ filled f (l.i + l.x) l.initial.work)

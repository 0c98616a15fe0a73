-- A coordinate up to g is in the first cell.
use mathlib.Core.Bool.{cond}
use mathlib.Core.Path.{◌≡◌, sym}
use Prim.Native.Nat.{◌*◌, ◌<◌, ◌≤◌, ℕ}
use native.Mathlib.Omega.{arith}
use borrow.Author.Tests.{lt-ltb}
use lib.Dec.{ltb}
use Rattle.cells.proofs.RunningCells.{cell_at, first_cell}
use Rattle.cells.specs.Coordinates.{cell_of}
use Rattle.cells.proofs.first_cell.Goals as goal

moving : (g step : ℕ) → 0 < step → cell_at 0 g ≡ cell_of g (cond (ltb 0 step) g 0)
moving g step l = rw (lt-ltb 0 step l) (sym (first_cell g g (omega arith)))

-- and up to one step it is g times as many
one-step : (g step : ℕ) → 0 < step → step ≤ 1 → cell_at 0 g ≡ cell_of g (g * step)
one-step g step l h =
    let one : step ≡ 1 = omega arith in
    let e : g ≡ g * step = rw one (omega arith) in
    rw (sym e) (sym (first_cell g g (omega arith)))

pub returns-then-step-gt0 : goal.returns-then-step-gt0
returns-then-step-gt0 c =
    record {
      at_any_step = moving c.args.g c.args.step (omega arith);
      up_to_one = λ h. one-step c.args.g c.args.step (omega arith) h;
    }

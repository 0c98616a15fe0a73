-- A row that ends at 0 is outside the box; any other begins its width before its end.
use mathlib.Core.List.{List}
use Prim.Native.Nat.{◌*◌, ◌≤◌, ℕ}
use native.Mathlib.Omega.{arith}
use lib.IntN.{pos}
use Rattle.sums.proofs.Places.{box-le}
use Rattle.spline.specs.Box.{places}
use Rattle.spline.specs.Place.{Axis, a1}
use Rattle.shape.specs.Shape.{widths}
use Rattle.differences.proofs.RowEnds.{end-in, in_row, no_row, past_row}
use Rattle.differences.proofs.rows.read.Goals as goal
use Rattle.differences.proofs.rows.read.Goals.{Start}

module _ (s : Start) where
  abbrev W : Axis → ℕ
  W = widths s.args.s

  abbrev end : ℕ
  end = s.args.e

  abbrev net : List ℕ
  net = s.args.net.now

  small : places W ≤ 91 * 91 * 91
  small = box-le s.requires.0.most1 s.requires.0.most2 s.requires.0.most3

  -- the row is one of the box
  within_box : 1 ≤ end → (W a1 ≤ end) × (end ≤ places W)
  within_box = end-in W s.requires.2.y s.requires.2.z end s.requires.2.is

pub returns-then-e-eq0 : goal.returns-then-e-eq0
returns-then-e-eq0 c =
    let s = (goal.at.returns-then-e-eq0 c).Start in
    λ y z h. no_row (W s) y z (end s) h (net s) c.requires.0.least1 c.if-e-eq0.true (pos c.args.x)

pub returns-then-w1-x : goal.returns-then-w1-x
returns-then-w1-x c =
    let s = (goal.at.returns-then-w1-x c).Start in
    λ y z h. past_row (W s) y z (end s) h (net s) c.args.x (omega arith)

pub overflow_sub-result : goal.overflow_sub-result
overflow_sub-result c = (within_box (goal.at.overflow_sub-result c).Start (omega arith)).0

pub overflow_add-result : goal.overflow_add-result
overflow_add-result c =
    let s = (goal.at.overflow_add-result c).Start in
    omega (arith, within_box s (omega arith), small s)

pub offset_bounds-net-e : goal.offset_bounds-net-e
offset_bounds-net-e c =
    let s = (goal.at.offset_bounds-net-e c).Start in
    omega (arith, within_box s (omega arith), small s)

pub bounds-net-e : goal.bounds-net-e
bounds-net-e c = omega (arith, within_box (goal.at.bounds-net-e c).Start (omega arith))

pub returns : goal.returns
returns c =
    let s = (goal.at.returns c).Start in
    λ y z h. in_row (W s) y z (end s) h (net s) c.args.x (omega arith) (omega arith)

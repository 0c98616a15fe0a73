-- The lowered coordinate a runs along with x; each turn writes the difference of the two numbers read at it.
use mathlib.Core.Path.{◌∙◌, ◌≡◌, ap, ap₂, sym}
use Prim.Native.Nat.{ℕ}
use native.Mathlib.Omega.{arith}
use lib.IntN.{◌-ℤ◌, pos, sub_ℕ, ℤ}
use lib.ListN.{length-set}
use mir.Facts.{to_z-of_z}
use mir.Syntax.{w32}
use mir.Val.{SFits, of_z, to_z}
use Rattle.spline.specs.Box.{spread}
use Rattle.spline.specs.Place.{Place, place}
use Rattle.shape.specs.Shape.{widths}
use Rattle.shape.specs.declared.Vector.{Vector}
use Rattle.cells.proofs.RunningCells.{goes_on, running-near, stays}
use Rattle.differences.proofs.DifferenceRows.{fills-next}
use Rattle.cells.specs.Coordinates.{near_coordinate}
use Rattle.differences.specs.Inner.Rows.{IsRowEnd, step_difference}
use Rattle.differences.specs.Pass.{wrapped}
use Rattle.differences.proofs.row.difference_across.Goals as goal
use Rattle.differences.proofs.row.difference_across.Goals.{After-minus, In-loop-x, else-r-eq0, then-r-eq0}

-- in a turn
module _ (c : In-loop-x) where
  near-end : IsRowEnd (widths c.args.old) c.end_of-near.result
  near-end = record {
    y = pos c.args.b;
    z = pos c.args.c;
    is = c.end_of-near.ensures;
  }

  far-end : IsRowEnd (widths c.args.old) c.end_back-far.result
  far-end = record {
    y = sub_ℕ c.args.b c.args.t.y;
    z = sub_ℕ c.args.c c.args.t.z;
    is = c.end_back-far.ensures;
  }

-- once both numbers are read and their difference is computed
module _ (c : After-minus) where
  abbrev g : ℕ
  g = c.args.old.m

  abbrev p : ℕ
  p = c.args.p

  abbrev t : Vector
  t = c.args.t

  abbrev at : ℕ
  at = c.loop-x.x

  abbrev near : ℕ
  near = c.loop-x.a

  -- the row of the near number, and that of the far one
  abbrev y : ℕ
  y = c.args.b

  abbrev z : ℕ
  z = c.args.c

  abbrev far-y : ℤ
  far-y = sub_ℕ y t.y

  abbrev far-z : ℤ
  far-z = sub_ℕ z t.z

  abbrev reads : Place → ℕ
  reads = spread (widths c.args.old) c.args.net.now

  near-number : c.read.result ≡ reads (place (pos near) (pos y) (pos z))
  near-number =
      c.read.ensures (pos y) (pos z) c.end_of-near.ensures

  far-number : c.read_back.result ≡ reads (place (sub_ℕ near t.x) far-y far-z)
  far-number =
      c.read_back.ensures far-y far-z c.end_back-far.ensures

  near-is : near ≡ near_coordinate g p t.x at
  near-is =
      let l = c.loop-x in
      running-near g p t.x at l.r near c.requires.w1_in_bounds.2 l.invariant.0 l.invariant.2

  -- the difference at a lowered coordinate
  abbrev value_at : ℕ → ℤ
  value_at a = step_difference (widths c.args.old) c.args.net.now t a y z

  -- the number of the turn
  written : to_z w32 (of_z w32 c.minus.result) ≡ value_at (near_coordinate g p t.x at)
  written =
      let fits : SFits w32 c.minus.result = record { sfits = c.minus.type_inv } in
      to_z-of_z fits
      ∙ c.minus.ensures
      ∙ ap₂ (λ (m n : ℕ). wrapped (pos m -ℤ pos n)) near-number far-number
      ∙ ap value_at near-is

pub loop-x-preserved : goal.loop-x-preserved
loop-x-preserved c =
    let q = (goal.at.loop-x-preserved c).After-minus in
    let l = c.loop-x in
    let work = c.args.work.now in
    let r = c.if-r-eq0.r in
    let a = c.if-r-eq0.a in
    let stay = stays (g q) (p q) (t q).x l.x l.r l.a r a l.invariant.2 in
    let go = goes_on (g q) (p q) (t q).x l.x l.r l.a r a l.invariant.2 in (
      elim c.if-r-eq0.branch [ then-r-eq0 w ↦ omega arith | else-r-eq0 w ↦ omega arith ],
      elim c.if-r-eq0.branch [ then-r-eq0 w ↦ omega arith | else-r-eq0 w ↦ omega arith ],
      elim c.if-r-eq0.branch [
        | then-r-eq0 w ↦ stay w.if-r-eq0.true w.r-is w.a-is
        | else-r-eq0 w ↦ go (omega arith) w.r-is w.a-is
      ],
      simp length-set l.invariant.3,
      λ f h e. fills-next f work l.work c.args.i l.x _ (l.invariant.4 f h e) (omega arith)
          (written q ∙ sym (h l.x (omega arith))),
    )

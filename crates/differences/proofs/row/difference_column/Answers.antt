-- Each turn writes the difference at the lowered coordinate x; the number that it reads there is the far one
-- of the next turn.
use mathlib.Core.Path.{◌∙◌, ◌≡◌, ap, ap₂, refl, sym}
use Prim.Native.Nat.{◌*◌, ◌+◌, ℕ}
use native.Mathlib.Omega.{arith}
use lib.IntN.{◌-ℤ◌, pos, ℤ}
use lib.ListN.{length-set}
use mir.Facts.{to_z-of_z}
use mir.Syntax.{w32}
use mir.Val.{SFits, of_z, to_z}
use Rattle.spline.specs.Box.{spread}
use Rattle.spline.specs.Place.{Place, place}
use Rattle.shape.specs.Shape.{widths}
use Rattle.differences.proofs.Columns.{column-all, column-next, column-none}
use Rattle.differences.proofs.NearPlaces.{sub-near}
use Rattle.differences.specs.Inner.Rows.{row_difference, row_end}
use Rattle.differences.specs.Pass.{wrapped}
use Rattle.differences.proofs.row.difference_column.Goals as goal
use Rattle.differences.proofs.row.difference_column.Goals.{After-minus}

-- the number of a turn, once it is computed
module _ (c : After-minus) where
  abbrev g : ℕ
  g = c.args.old.m

  abbrev reads : Place → ℕ
  reads = spread (widths c.args.old) c.args.net.now

  abbrev number_in : ℤ → ℤ → ℕ → ℤ
  number_in y z k = row_difference g (widths c.args.old) c.args.net.now y z (c.args.a + g * k)

  module _ (y z : ℤ) (h : c.args.r ≡ row_end (widths c.args.old) y z) where
    near-number : c.read-near.result ≡ reads (place (pos c.loop-i.x) y z)
    near-number = c.read-near.ensures y z h

    written : to_z w32 (of_z w32 c.minus.result) ≡ number_in y z c.loop-i.invariant.0.k
    written =
        let l = c.loop-i in
        let fits : SFits w32 c.minus.result = record { sfits = c.minus.type_inv } in
        to_z-of_z fits
        ∙ c.minus.ensures
        ∙ ap₂ (λ (m n : ℕ). wrapped (pos m -ℤ pos n)) near-number (l.invariant.2 y z h)
        ∙ ap (row_difference g (widths c.args.old) c.args.net.now y z) l.invariant.0.x-is

pub read_back-far-requires : goal.read_back-far-requires
read_back-far-requires c = (c.requires.growing.0.boxed, c.requires.growing.0.held, c.requires.growing.1)

pub loop-i-init : goal.loop-i-init
loop-i-init c = (
  record { k = 0; x-is = omega arith; i-is = omega arith },
  refl,
  λ y z h. c.read_back-far.ensures y z h,
  λ y z h. column-none _ _ c.args.b c.args.e c.args.work.now,
)

pub read-near-requires : goal.read-near-requires
read-near-requires c = (c.requires.growing.0.boxed, c.requires.growing.0.held, c.requires.growing.1)

pub loop-i-preserved : goal.loop-i-preserved
loop-i-preserved c =
    let q = (goal.at.loop-i-preserved c).After-minus in
    let l = c.loop-i in
    let t = l.invariant.0 in
    let next = sub-near l.x (g q) (l.x + g q) refl in (
      record { k = t.k + 1; x-is = omega arith; i-is = omega arith },
      simp length-set l.invariant.1,
      λ y z h. near-number q y z h ∙ ap (λ (x : ℤ). reads q (place x y z)) (sym next),
      λ y z h. column-next (g q) (number_in q y z) c.args.b c.args.e c.args.work.now l.work
          t.k l.i _ t.i-is (omega arith) (omega arith) (written q y z h) (l.invariant.3 y z h),
    )

pub shape_of-work : goal.shape_of-work
shape_of-work c = c.loop-i.invariant.1

pub returns : goal.returns
returns c =
    let l = c.loop-i in
    λ y z h. column-all _ _ c.args.b c.args.e c.args.work.now l.work l.i (omega arith) (l.invariant.3 y z h)

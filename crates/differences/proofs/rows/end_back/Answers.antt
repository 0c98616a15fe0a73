-- A step that leads below 0 leaves the box; any other leads to a row by naturals.
use mathlib.Core.Path.{◌∙◌, ap₂, sym}
use native.Mathlib.Omega.{arith}
use lib.IntN.{sub_ℕ, ℤ}
use Rattle.shape.specs.Shape.{widths}
use Rattle.spline.proofs.Coordinates.{sub-inside, sub-outside}
use Rattle.differences.proofs.RowEnds.{end_below, end-left}
use Rattle.differences.specs.Inner.Rows.{row_end}
use Rattle.differences.proofs.rows.end_back.Goals as goal

pub returns-then-y-b : goal.returns-then-y-b
returns-then-y-b c =
    let a = c.args in
    let left = sub-outside a.y a.b (omega arith) in
    sym (end-left (widths a.s) (sub_ℕ a.y a.b) (sub_ℕ a.z a.c) left)

pub returns-then-z-c : goal.returns-then-z-c
returns-then-z-c c =
    let a = c.args in
    let below = sub-outside a.z a.c (omega arith) in
    sym (end_below (widths a.s) (sub_ℕ a.y a.b) (sub_ℕ a.z a.c) below)

pub returns : goal.returns
returns c =
    let a = c.args in
    c.end_of.ensures
    ∙ ap₂ (λ (y z : ℤ). row_end (widths a.s) y z)
    (sym (sub-inside a.y a.b (omega arith)))
    (sym (sub-inside a.z a.c (omega arith)))

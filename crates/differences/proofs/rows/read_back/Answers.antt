-- Below 0 no number stands; otherwise the number is read t places before x.
use mathlib.Core.Path.{◌∙◌, ap, sym}
use native.Mathlib.Omega.{arith}
use lib.IntN.{sub_ℕ, ℤ}
use Rattle.spline.proofs.Box.{spread-vanishes}
use Rattle.spline.specs.Box.{spread}
use Rattle.spline.specs.Place.{a1, place}
use Rattle.shape.specs.Shape.{widths}
use Rattle.spline.proofs.Coordinates.{sub-inside, sub-outside}
use Rattle.differences.proofs.rows.read_back.Goals as goal

pub returns-then-x-t : goal.returns-then-x-t
returns-then-x-t c =
    let a = c.args in
    let out = sub-outside a.x a.t (omega arith) in
    λ y z h. sym ((spread-vanishes (widths a.s) a.net.now).far (place (sub_ℕ a.x a.t) y z) a1 out)

pub returns : goal.returns
returns c =
    let a = c.args in
    let at = sub-inside a.x a.t (omega arith) in
    λ y z h. c.read.ensures y z h
    ∙ ap (λ (x : ℤ). spread (widths a.s) a.net.now (place x y z)) (sym at)

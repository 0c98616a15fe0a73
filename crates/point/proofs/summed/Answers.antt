-- The degree is that of the unit's net, and the sums and the denominator are of it.
use mathlib.Core.Path.{◌∙◌, ◌≡◌, ap, refl}
use mir.Facts.{to_z-of_z}
use mir.Syntax.{w64}
use mir.Val.{SFits}
use Rattle.spline.specs.Multiplicities.{degree}
use Rattle.unit.specs.Unit.{net_of}
use Rattle.point.proofs.summed.Goals as goal
use Rattle.point.proofs.summed.Goals.{After-degree_of-m}

degree-is : (c : After-degree_of-m) → c.degree_of-m.result ≡ degree (net_of c.args.unit)
degree-is c = c.degree_of-m.ensures.0 ∙ ap degree c.of_unit.ensures

pub bernstein_sums-sums-requires : goal.bernstein_sums-sums-requires
bernstein_sums-sums-requires c = rw (degree-is (goal.at.bernstein_sums-sums-requires c).After-degree_of-m) c.requires

pub denominator-requires : goal.denominator-requires
denominator-requires c = rw (degree-is (goal.at.denominator-requires c).After-degree_of-m) c.requires.0

pub returns : goal.returns
returns c =
    let sums = c.bernstein_sums-sums in
    let f : SFits w64 sums.result.numerator = record { sfits = c.struct_told-1.given.0.1 } in
    rw (to_z-of_z f, sums.ensures, c.denominator.ensures, degree-is (goal.at.returns c).After-degree_of-m) refl

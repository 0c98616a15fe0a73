-- A point call to which no check applies answers the fraction: its definition, where all checks pass.
use mathlib.Core.Path.{refl}
use Rattle.sums.specs.Fill.{number_at}
use Rattle.unit.specs.Unit.{net_of, sizes}
use Rattle.placing.specs.Placing.{placing}
use Rattle.answers.specs.Point.{point_answer, point_checks}
use Rattle.claims_points.specs.Points.{Fraction}
use Rattle.blended.proofs.Answers.{window-passed}
use Rattle.blended.specs.Blend.{correction_at}

pub fraction : Fraction
unfolding point_answer point_checks
fraction u net corrections uncertainties x y z D passes inside measured even =
    let window = window-passed (net_of u) (sizes u) (number_at net) (correction_at (sizes u) corrections)
    (placing u x y z D) measured even in
    rw (passes, inside, window) refl

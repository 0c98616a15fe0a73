-- What a point call answers where no check applies: Section 14.5.
use Rattle.std.specs.Prelude.{List, Ok, length, true, ℕ, ℤ, ◌≡◌}
use Rattle.sums.specs.Fill.{number_at}
use Rattle.sums.specs.Search.{nowhere}
use Rattle.spline.specs.Multiplicities.{degree}
use Rattle.unit.specs.Unit.{net_of, sizes}
use Rattle.unit.specs.declared.Unit.{Unit}
use Rattle.limits.specs.Limits.{lent_checks}
use Rattle.divisor_checks.specs.Divisor.{divisor_checks, scale}
use Rattle.axis_order.specs.Weights.{placing_cell}
use Rattle.placing.specs.Place.{position_checks}
use Rattle.placing.specs.Placing.{placing}
use Rattle.answers.specs.Bernstein.{shift_numerator, uncertainty_numerator}
use Rattle.answers.specs.Point.{point_answer}
use Rattle.blended.specs.Blend.{correction_at, uncertainty_at}
use Rattle.blended.specs.Blending.{adds_up}
use Rattle.blended.specs.Gaps.{first_gap}
use Rattle.checks.specs.Checks.{no_refusal}

-- Section 14.5, the exact fraction: where no check of a point call applies, it answers the N, U and m!×D^m of
-- Section 11, of the numbers in the lent slices, whatever these are.
abbrev pub Fraction : Type 0
Fraction =
    (u : Unit) (net : List ℕ) (corrections : List ℤ) (uncertainties : List ℕ) (x y z : ℤ) (D : ℕ)
    → (let v = net_of u in
    let correction = correction_at (sizes u) corrections in
    let q = placing u x y z D in
    lent_checks u (length net) (length corrections) (length uncertainties) ≡ no_refusal
    → position_checks u x y z D ≡ no_refusal
    → first_gap v (sizes u) correction (placing_cell q) ≡ nowhere
    → adds_up v (number_at net) q ≡ true
    → point_answer u net corrections uncertainties x y z D
    ≡ Ok (record {
      numerator = shift_numerator v (number_at net) correction q;
      uncertainty = uncertainty_numerator v (number_at net) (uncertainty_at (sizes u) uncertainties) q;
      denominator = scale (degree v) D;
    }))

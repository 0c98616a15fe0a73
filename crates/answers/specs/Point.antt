-- What a point call and a valuing call answer, by their checks in their order (21, 22, 4, 9, 10, 11, 12, 13,
-- 23; 21, 22, 17, 4, 9, 13, 23): Sections 11.4 and 11.11.
use Rattle.std.specs.Prelude.{Err, List, Ok, Result, length, ℕ, ℤ}
use Rattle.sums.specs.Fill.{number_at}
use Rattle.spline.specs.Multiplicities.{degree}
use Rattle.unit.specs.Unit.{net_of, sizes}
use Rattle.unit.specs.declared.Unit.{Unit}
use Rattle.limits.specs.Limits.{lent_checks}
use Rattle.divisor_checks.specs.Divisor.{scale}
use Rattle.axis_order.specs.Weights.{weight_sum}
use Rattle.axis_order.specs.declared.Placing.{Placing}
use Rattle.placing.specs.Place.{position_checks}
use Rattle.placing.specs.Placing.{placing}
use Rattle.answers.specs.Bernstein.{shift_numerator, uncertainty_numerator}
use Rattle.answers.specs.declared.Fraction.{Fraction}
use Rattle.blended.specs.Blend.{blend_checks, correction_at, uncertainty_at, window_checks}
use Rattle.checks.specs.Checks.{Checked, and_then, passed_or}
use Rattle.checks.specs.declared.Refusal.{Refusal}

module _ (u : Unit) (net : List ℕ) (corrections : List ℤ) (uncertainties : List ℕ) where
  -- Section 11.3: the fraction at a placing over D
  abbrev pub fraction_at : Placing → ℕ → Fraction
  fraction_at q D = record {
    numerator = shift_numerator (net_of u) (number_at net) (correction_at (sizes u) corrections) q;
    uncertainty = uncertainty_numerator (net_of u) (number_at net) (uncertainty_at (sizes u) uncertainties) q;
    denominator = scale (degree (net_of u)) D;
  }

  -- Section 11.4: all checks of a point call in their order
  unfoldable pub point_checks : ℤ → ℤ → ℤ → ℕ → Checked
  point_checks x y z D =
      and_then (lent_checks u (length net) (length corrections) (length uncertainties))
      (and_then (position_checks u x y z D)
      (window_checks (net_of u) (sizes u) (number_at net) (correction_at (sizes u) corrections)
      (placing u x y z D)))

  -- Section 11.4: the answer
  unfoldable pub point_answer : ℤ → ℤ → ℤ → ℕ → Result Fraction Refusal
  point_answer x y z D = passed_or (point_checks x y z D) (Ok (fraction_at (placing u x y z D) D)) Err

  -- Section 11.11: the answer at a placing
  unfoldable pub valuing_answer : Placing → Result Fraction Refusal
  valuing_answer q =
      passed_or (blend_checks u net corrections uncertainties q) (Ok (fraction_at q (weight_sum q))) Err

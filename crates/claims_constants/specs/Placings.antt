-- Placings in a block with one correction throughout: Section 14.10.
use Rattle.std.specs.Prelude.{List, Ok, length, pos, take, ℕ, ℤ, ◌*ℤ◌, ◌≡◌}
use Rattle.sums.specs.Fill.{number_at}
use Rattle.spline.specs.Box.{places, width}
use Rattle.spline.specs.Multiplicities.{Multiplicities, degree}
use Rattle.unit.specs.Unit.{net_of, sizes}
use Rattle.unit.specs.declared.Unit.{Unit}
use Rattle.limits.specs.Limits.{room_checks}
use Rattle.divisor_checks.specs.Divisor.{scale}
use Rattle.axis_order.specs.declared.Placing.{Placing}
use Rattle.placing.specs.Place.{place_answer}
use Rattle.answers.specs.Bernstein.{uncertainty_numerator}
use Rattle.answers.specs.Point.{valuing_answer}
use Rattle.claims_nets.specs.Nets.{BuiltOrPassed}
use Rattle.claims_constants.specs.Points.{Constant}
use Rattle.blended.specs.Blend.{uncertainty_at}
use Rattle.checks.specs.Checks.{no_refusal}

-- A net was built or passed, a unit has a net of its multiplicities, and the lent net slice still holds it;
-- each entry of the block has the same correction c, which is no gap, and any uncertainty. Where the placing
-- call gives a placing over D, and no slice is too short, the valuing call answers c×m!×D^m for N.
abbrev pub PlacedConstantBlock : Type 0
PlacedConstantBlock =
    (v : Multiplicities) (s : List ℕ) → BuiltOrPassed v s
    → (u : Unit) → net_of u ≡ v
    → (net : List ℕ) → take (places (width v)) net ≡ take (places (width v)) s
    → (corrections : List ℤ) (c : ℤ) → Constant (places (sizes u)) corrections c
    → (uncertainties : List ℕ)
    → room_checks u (length net) (length corrections) (length uncertainties) ≡ no_refusal
    → (x y z : ℤ) (D : ℕ) (q : Placing) → place_answer u x y z D ≡ Ok q
    → valuing_answer u net corrections uncertainties q
    ≡ Ok (record {
      numerator = c *ℤ pos (scale (degree v) D);
      uncertainty = uncertainty_numerator v (number_at net) (uncertainty_at (sizes u) uncertainties) q;
      denominator = scale (degree v) D;
    })

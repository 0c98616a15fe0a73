-- Points in a block with one correction throughout: Section 14.5.
use Rattle.std.specs.Prelude.{List, Ok, false, get_or, length, pos, take, ℕ, ℤ, ◌*ℤ◌, ◌<◌, ◌≡◌}
use Rattle.sums.specs.Fill.{number_at}
use Rattle.spline.specs.Box.{places, width}
use Rattle.spline.specs.Multiplicities.{Multiplicities, degree}
use Rattle.unit.specs.Gaps.{is_gap}
use Rattle.unit.specs.Unit.{net_of, sizes}
use Rattle.unit.specs.declared.Unit.{Unit}
use Rattle.limits.specs.Limits.{lent_checks}
use Rattle.divisor_checks.specs.Divisor.{scale}
use Rattle.placing.specs.Place.{position_checks}
use Rattle.placing.specs.Placing.{placing}
use Rattle.answers.specs.Bernstein.{uncertainty_numerator}
use Rattle.answers.specs.Point.{point_answer}
use Rattle.claims_nets.specs.Nets.{BuiltOrPassed}
use Rattle.blended.specs.Blend.{uncertainty_at}
use Rattle.checks.specs.Checks.{no_refusal}

-- Section 14.5: the first n corrections are all c, and c is not the mark of a gap
pub record Constant (n : ℕ) (corrections : List ℤ) (c : ℤ) : Type 0 where
  pub measured : is_gap c ≡ false
  pub throughout : (i : ℕ) → i < n → get_or corrections i (pos 0) ≡ c

-- Section 14.5. A net was built or passed; a unit has a net of its multiplicities, and the lent net slice
-- still holds it; each entry of the block has the same correction c, which is no gap, and any uncertainty.
-- Where none of 21, 22, 4, 9, 10, 11, 12 applies, the answer is the fraction of Section 11, and N is
-- c×m!×D^m.
abbrev pub ConstantBlock : Type 0
ConstantBlock =
    (v : Multiplicities) (s : List ℕ) → BuiltOrPassed v s
    → (u : Unit) → net_of u ≡ v
    → (net : List ℕ) → take (places (width v)) net ≡ take (places (width v)) s
    → (corrections : List ℤ) (c : ℤ) → Constant (places (sizes u)) corrections c
    → (uncertainties : List ℕ)
    → lent_checks u (length net) (length corrections) (length uncertainties) ≡ no_refusal
    → (x y z : ℤ) (D : ℕ) → position_checks u x y z D ≡ no_refusal
    → point_answer u net corrections uncertainties x y z D
    ≡ Ok (record {
      numerator = c *ℤ pos (scale (degree v) D);
      uncertainty =
          uncertainty_numerator v (number_at net) (uncertainty_at (sizes u) uncertainties)
          (placing u x y z D);
      denominator = scale (degree v) D;
    })

-- What a live call and a live valuing call answer, by their checks in their order (21, 22, 4, 9, 10, 11, 15,
-- 12, 13, 23; 21, 22, 17, 15, 4, 9, 13, 23): Sections 11.7, 11.8 and 11.12.
use Rattle.std.specs.Prelude.{Ok, Bool, Err, List, Result, false, length, pos, true, ℕ, ℤ}
use Rattle.sums.specs.Fill.{number_at}
use Rattle.unit.specs.Unit.{net_of, sizes}
use Rattle.unit.specs.declared.Unit.{Unit}
use Rattle.limits.specs.Limits.{lent_checks, room_checks}
use Rattle.divisor_checks.specs.Divisor.{live_divisor_checks}
use Rattle.axis_order.specs.declared.Placing.{Placing}
use Rattle.placing.specs.Place.{inside_check}
use Rattle.placing.specs.Placing.{placing}
use Rattle.possible.specs.Possible.{live_placing_checks}
use Rattle.floats.specs.Floats.{float}
use Rattle.answers.specs.Bernstein.{shift_numerator, uncertainty_numerator}
use Rattle.blended.specs.Blend.{correction_at, uncertainty_at, window_checks}
use Rattle.checks.specs.Checks.{Checked, and_then, passed_or}
use Rattle.checks.specs.declared.Refusal.{Refusal}
use Rattle.answers.specs.declared.LiveValue.{LiveValue}
use Rattle.answers.specs.declared.LiveValue.TheVariants.{Both, Shift}

-- Section 11.8: N and U as floats, or N alone where the uncertainty is switched off
abbrev pub live_value : Bool → ℤ → ℕ → LiveValue
live_value true N U = Both (record { numerator = float N; uncertainty = float (pos U) })
live_value false N U = Shift (float N)

module _ (u : Unit) (net : List ℕ) (corrections : List ℤ) (uncertainties : List ℕ) (x y z : ℤ) (D : ℕ) where
  -- Section 11.8: all checks in their order
  unfoldable pub live_checks : Checked
  live_checks =
      and_then (lent_checks u (length net) (length corrections) (length uncertainties))
      (and_then (live_divisor_checks (net_of u) D)
      (and_then (inside_check u x y z D)
      (window_checks (net_of u) (sizes u) (number_at net) (correction_at (sizes u) corrections)
      (placing u x y z D))))

  -- Section 11.8: the answer, by the flag that switches the uncertainty on
  unfoldable pub live_answer : Bool → Result LiveValue Refusal
  live_answer with_uncertainty =
      passed_or live_checks
      (Ok
      (live_value with_uncertainty
      (shift_numerator (net_of u) (number_at net) (correction_at (sizes u) corrections) (placing u x y z D))
      (uncertainty_numerator (net_of u) (number_at net) (uncertainty_at (sizes u) uncertainties)
      (placing u x y z D))))
      Err

module _ (u : Unit) (net : List ℕ) (corrections : List ℤ) (uncertainties : List ℕ) (q : Placing) where
  -- Section 11.12: all checks at a placing in their order
  unfoldable pub live_valuing_checks : Checked
  live_valuing_checks =
      and_then (live_placing_checks u q)
      (and_then (room_checks u (length net) (length corrections) (length uncertainties))
      (window_checks (net_of u) (sizes u) (number_at net) (correction_at (sizes u) corrections) q))

  -- Section 11.12: the answer at a placing
  unfoldable pub live_valuing_answer : Bool → Result LiveValue Refusal
  live_valuing_answer with_uncertainty =
      passed_or live_valuing_checks
      (Ok
      (live_value with_uncertainty
      (shift_numerator (net_of u) (number_at net) (correction_at (sizes u) corrections) q)
      (uncertainty_numerator (net_of u) (number_at net) (uncertainty_at (sizes u) uncertainties) q)))
      Err

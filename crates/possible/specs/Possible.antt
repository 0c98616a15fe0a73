-- Which placings the placing call gives for a unit, and the checks of a call that is handed a placing:
-- Section 9.7.
use Rattle.std.specs.Prelude.{Bool, ◌&&◌, not, ℕ}
use Rattle.unit.specs.Unit.{net_of, sizes}
use Rattle.unit.specs.declared.Unit.{Unit}
use Rattle.limits.specs.Limits.{room_checks, unit_checks}
use Rattle.divisor_checks.specs.Divisor.{divisor_checks, live_scale_check}
use Rattle.cell_checks.specs.Inside.{inside}
use Rattle.axis_order.specs.Weights.{placing_cell, weight_sum}
use Rattle.axis_order.specs.declared.Placing.{Placing}
use Rattle.three_axes.specs.Axes.{are_axes}
use Rattle.placing_fields.specs.Fields.{faces_in_last, ties_in_order}
use Rattle.checks.specs.Checks.{Checked, and_then, no_refusal, passes, refuse_if}
use Rattle.checks.specs.declared.Refusal.TheVariants.{ImpossiblePlacing}

-- Section 9.7: whether the placing call gives q for the unit and some point; its divisor is one that neither
-- 10 nor 11 refuses
unfoldable pub possible : Unit → Placing → Bool
possible u q =
    are_axes q.p q.r q.s
    && passes (divisor_checks (net_of u) (weight_sum q))
    && inside (net_of u) (sizes u) (placing_cell q)
    && ties_in_order q
    && faces_in_last u q

-- ---- checks

-- Section 5.3: 21, 22, 17 for a placing that is not possible
unfoldable pub placing_checks : Unit → Placing → Checked
placing_checks u q = and_then (unit_checks u) (refuse_if ImpossiblePlacing (not (possible u q)) no_refusal)

-- Section 5.3: 21, 22, 17, 4, 9
unfoldable pub placed_checks : Unit → Placing → ℕ → ℕ → ℕ → Checked
placed_checks u q net_length corrections_length uncertainties_length =
    and_then (placing_checks u q) (room_checks u net_length corrections_length uncertainties_length)

-- Section 5.3: 21, 22, 17, 15
unfoldable pub live_placing_checks : Unit → Placing → Checked
live_placing_checks u q = and_then (placing_checks u q) (live_scale_check (net_of u) (weight_sum q))

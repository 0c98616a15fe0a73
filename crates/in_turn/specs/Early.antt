-- What a live valuing call looks at before its blending.
use Rattle.unit.specs.Unit.{net_of}
use Rattle.unit.specs.declared.Unit.{Unit}
use Rattle.divisor_checks.specs.Divisor.{live_divisor_checks}
use Rattle.axis_order.specs.Weights.{weight_sum}
use Rattle.axis_order.specs.declared.Placing.{Placing}
use Rattle.possible.specs.Possible.{live_placing_checks}
use Rattle.checks.specs.Checks.{Checked, no_refusal, passed_or}

-- 21, 22, 17 and 15 for a divisor that a live call would refuse, else nothing
unfoldable pub early_checks : Unit → Placing → Checked
early_checks u q =
    passed_or (live_divisor_checks (net_of u) (weight_sum q)) no_refusal (λ r. live_placing_checks u q)

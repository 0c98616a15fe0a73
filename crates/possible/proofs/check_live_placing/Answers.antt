-- A placing that is possible has a divisor within limits, whose scale is then looked at.
use mathlib.Core.Path.{◌∙◌, ◌≡◌, ap, sym}
use Prim.Native.Nat.{ℕ}
use Rattle.unit.specs.Unit.{net_of}
use Rattle.divisor_checks.proofs.Accepted.{divisor-passes}
use Rattle.divisor_checks.specs.Divisor.{live_divisor_checks}
use Rattle.possible.proofs.FieldTests.{PlacingAccepted, placing-accepted}
use Rattle.possible.specs.Possible.{live_placing_checks, placing_checks}
use Rattle.possible.proofs.check_live_placing.Goals as goal
use Rattle.possible.proofs.check_live_placing.Goals.{In_ok-check_placing}
use Rattle.checks.specs.Checks.{no_refusal}

module _ (c : In_ok-check_placing) where
  passed : placing_checks c.args.unit c.args.q ≡ no_refusal
  passed = sym c.check_placing.ensures ∙ c.in_ok-check_placing.was

  accepted : PlacingAccepted c.args.unit c.args.q
  accepted = placing-accepted _ _ passed

pub returns : goal.returns
unfolding live_placing_checks live_divisor_checks
returns c =
    let v = net_of c.args.unit in
    let divisor = (accepted (goal.at.returns c).In_ok-check_placing).possible.divisor in
    simp (passed (goal.at.returns c).In_ok-check_placing)
    (c.check_live_divisor.ensures
    ∙ ap (λ (D : ℕ). live_divisor_checks v D) c.divisor.ensures
    ∙ simp (divisor-passes v _ divisor))

-- A point that is placed is valued, if no slice is too short; one that is not is refused as a law on the two
-- calls in turn says.
use mathlib.Core.Path.{◌∙◌, sym}
use Rattle.possible.proofs.PlacedPossible.{placed}
use Rattle.answers.proofs.InTurn.{in-turn, short-refused}
use Rattle.in_turn.proofs.Unplaced.{as-live, live-unplaced}
use Rattle.checks.proofs.Checks.{passed_on}
use Rattle.live.proofs.answer.Goals as goal

pub returns-in_err-check_room-in-Ok : goal.returns-in_err-check_room-in-Ok
returns-in_err-check_room-in-Ok c =
    let a = c.args in
    let placed-here = sym c.place.ensures ∙ c.in-Ok.is in
    passed_on _ c.from_residual.ensures
    ∙ short-refused a.unit _ _ _ a.with_uncertainty
    (placed a.unit a.at.x a.at.y a.at.z a.at.divisor placed-here) (sym c.check_room.ensures ∙ c.in_err-check_room-in-Ok.was)

pub returns-in_ok-check_room-in-Ok : goal.returns-in_ok-check_room-in-Ok
returns-in_ok-check_room-in-Ok c =
    let a = c.args in
    let placed-here = sym c.place.ensures ∙ c.in-Ok.is in
    c.value.ensures
    ∙ sym (in-turn a.unit _ _ _ a.with_uncertainty a.at.x a.at.y a.at.z a.at.divisor
    (sym c.check_room.ensures ∙ c.in_ok-check_room-in-Ok.was) placed-here)

pub returns-in-Err : goal.returns-in-Err
returns-in-Err c =
    let a = c.args in
    as-live _ _ _ _ _ _ _ c.unplaced_live.ensures
    ∙ live-unplaced a.unit a.lent.net.now a.lent.corrections.now a.lent.uncertainties.now
    a.at.x a.at.y a.at.z a.at.divisor (sym c.place.ensures ∙ c.in-Err.is) a.with_uncertainty

-- A point that is placed is valued; one that is not is refused as a law on the two calls in turn says.
use mathlib.Core.Path.{◌∙◌, sym}
use Rattle.answers.proofs.Point.{two-calls}
use Rattle.in_turn.proofs.Unplaced.{as-point, point-unplaced}
use Rattle.point.proofs.answer.Goals as goal

pub returns-in-Ok : goal.returns-in-Ok
returns-in-Ok c =
    c.value.ensures
    ∙ sym (two-calls _ _ _ _ _ _ _ _ (sym c.place.ensures ∙ c.in-Ok.is))

pub returns-in-Err : goal.returns-in-Err
returns-in-Err c =
    let a = c.args in
    as-point _ _ _ _ _ _ c.unplaced_point.ensures
    ∙ point-unplaced a.unit a.lent.net.now a.lent.corrections.now a.lent.uncertainties.now
    a.at.x a.at.y a.at.z a.at.divisor (sym c.place.ensures ∙ c.in-Err.is)

-- Of a refusal of the library's own, the flat answers are those that the definitions say.
use mathlib.Core.Path.{◌≡◌}
use Rattle.std.specs.Prelude.{Err, Ok, Result}
use Rattle.checks.specs.declared.Refusal.{Refusal}
use Rattle.axis_order.specs.declared.Placing.{Placing}
use Rattle.answers.specs.declared.Fraction.{Fraction}
use Rattle.answers.specs.declared.LiveValue.{LiveValue}
use Rattle.flat_unit.proofs.Refusals.{told}
use Rattle.flat_unit.specs.Record.{flat_refusal}
use Rattle.flat.specs.Flat.{LiveMade, PlacingMade, PointMade, flat_live, flat_placing, flat_point}
use Rattle.flat.specs.Flat.{refused_live, refused_placing, refused_point}
use Rattle.flat.specs.declared.FlatLiveAnswer.{FlatLiveAnswer}
use Rattle.flat.specs.declared.FlatPlacingAnswer.{FlatPlacingAnswer}
use Rattle.flat.specs.declared.FlatPointAnswer.{FlatPointAnswer}

-- of a placing call
pub as-placing : (answer : Result Placing Refusal) (flat : FlatPlacingAnswer)
    → PlacingMade (λ r f. f ≡ flat_refusal r) answer flat → flat ≡ flat_placing answer
as-placing (Ok q) flat h = h
as-placing (Err r) flat h = told refused_placing r _ _ flat h

-- of a point call or a valuing call
pub as-point : (answer : Result Fraction Refusal) (flat : FlatPointAnswer)
    → PointMade (λ r f. f ≡ flat_refusal r) answer flat → flat ≡ flat_point answer
as-point (Ok f) flat h = h
as-point (Err r) flat h = told refused_point r _ _ flat h

-- of a live call or a live valuing call
pub as-live : (answer : Result LiveValue Refusal) (flat : FlatLiveAnswer)
    → LiveMade (λ r f. f ≡ flat_refusal r) answer flat → flat ≡ flat_live answer
as-live (Ok value) flat h = h
as-live (Err r) flat h = told refused_live r _ _ flat h

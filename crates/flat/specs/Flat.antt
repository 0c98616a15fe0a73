-- The answers of the C interface that carry no unit, a flat struct in the place of an answer: Section 12.
use Rattle.std.specs.Prelude.{Bool, Err, Ok, Result, eqb, not, pos, ℕ, ◌≡◌}
use Rattle.axis_order.specs.declared.Placing.{Placing}
use Rattle.floats.specs.Floats.{float}
use Rattle.flat_unit.specs.Record.{Tells}
use Rattle.flat_unit.specs.declared.FlatRefusal.{FlatRefusal}
use Rattle.flat.specs.declared.FlatLiveAnswer.{FlatLiveAnswer}
use Rattle.flat.specs.declared.FlatPlacingAnswer.{FlatPlacingAnswer}
use Rattle.flat.specs.declared.FlatPointAnswer.{FlatPointAnswer}
use Rattle.checks.specs.Checks.{number_of, place_of}
use Rattle.checks.specs.declared.Refusal.{Refusal}
use Rattle.answers.specs.declared.Fraction.{Fraction}
use Rattle.answers.specs.declared.LiveValue.{LiveValue}
use Rattle.answers.specs.declared.LiveValue.TheVariants.{Both, Shift}

-- Section 12.2: the placing of a refused call, which is not possible for any unit
abbrev pub no_placing : Placing
no_placing =
    record { k1 = 0; k2 = 0; k3 = 0; p = 0; r = 0; s = 0; l0 = 0; l1 = 0; l2 = 0; l3 = 0 }

-- Section 12.2: a refused placing call, by number and place
abbrev pub refused_placing : ℕ → ℕ → FlatPlacingAnswer
refused_placing number place = record { number = number; place = place; placing = no_placing }

-- Section 12.2: the answer of a placing call
abbrev pub flat_placing : Result Placing Refusal → FlatPlacingAnswer
flat_placing (Ok q) = record { number = 0; place = 0; placing = q }
flat_placing (Err r) = refused_placing (number_of r) (place_of r)

-- Section 12.2: a refused point call or valuing call, by number and place
abbrev pub refused_point : ℕ → ℕ → FlatPointAnswer
refused_point number place =
    record { number = number; place = place; numerator = pos 0; uncertainty = 0; denominator = 0 }

-- Section 12.2: the answer of a point call or of a valuing call
abbrev pub flat_point : Result Fraction Refusal → FlatPointAnswer
flat_point (Ok f) = record {
  number = 0;
  place = 0;
  numerator = f.numerator;
  uncertainty = f.uncertainty;
  denominator = f.denominator;
}
flat_point (Err r) = refused_point (number_of r) (place_of r)

-- Section 12.2: of the flag of a live call, 0 switches the uncertainty off, and every other byte leaves it on
abbrev pub switched_on : ℕ → Bool
switched_on flag = not (eqb flag 0)

-- Section 12.2: a refused live call or live valuing call, by number and place
abbrev pub refused_live : ℕ → ℕ → FlatLiveAnswer
refused_live number place = record {
  number = number;
  place = place;
  numerator = float (pos 0);
  uncertainty = float (pos 0);
}

-- Section 12.2: the answer of a live call or of a live valuing call; a float that it does not have is +0
abbrev pub flat_live : Result LiveValue Refusal → FlatLiveAnswer
flat_live (Ok (Both f)) =
    record { number = 0; place = 0; numerator = f.numerator; uncertainty = f.uncertainty }
flat_live (Ok (Shift n)) =
    record { number = 0; place = 0; numerator = n; uncertainty = float (pos 0) }
flat_live (Err r) = refused_live (number_of r) (place_of r)

-- ---- of refusals of any kind R: `turns` says what number and place they turn into

-- Section 12.2: what the flat answer of a placing call is
abbrev pub PlacingMade : {R : Type 0} → (R → FlatRefusal → Type 0) → Result Placing R → FlatPlacingAnswer
    → Type 0
PlacingMade turns (Ok q) flat = flat ≡ flat_placing (Ok q)
PlacingMade turns (Err r) flat = Tells turns refused_placing r flat.number flat.place flat

-- of a point call or of a valuing call
abbrev pub PointMade : {R : Type 0} → (R → FlatRefusal → Type 0) → Result Fraction R → FlatPointAnswer
    → Type 0
PointMade turns (Ok f) flat = flat ≡ flat_point (Ok f)
PointMade turns (Err r) flat = Tells turns refused_point r flat.number flat.place flat

-- of a live call or of a live valuing call
abbrev pub LiveMade : {R : Type 0} → (R → FlatRefusal → Type 0) → Result LiveValue R → FlatLiveAnswer
    → Type 0
LiveMade turns (Ok value) flat = flat ≡ flat_live (Ok value)
LiveMade turns (Err r) flat = Tells turns refused_live r flat.number flat.place flat

-- Placing and valuing as two calls: Section 14.10.
use Rattle.std.specs.Prelude.{Bool, Err, List, Ok, length, ℕ, ℤ, ◌<◌, ◌↔◌, ◌≡◌, ◌≤◌, ◌⊎◌}
use Rattle.spline.specs.Multiplicities.{degree}
use Rattle.checks.specs.declared.Refusal.{Refusal}
use Rattle.unit.specs.Unit.{net_of}
use Rattle.unit.specs.declared.Unit.{Unit}
use Rattle.limits.specs.Limits.{lent_checks, room_checks, unit_checks}
use Rattle.divisor_checks.specs.Divisor.{live_limit, scale}
use Rattle.axis_order.specs.Weights.{weight_sum}
use Rattle.axis_order.specs.declared.Placing.{Placing}
use Rattle.placing.specs.Place.{place_answer}
use Rattle.possible.specs.Possible.{placing_checks}
use Rattle.answers.specs.Live.{live_answer, live_value, live_valuing_answer}
use Rattle.answers.specs.Point.{point_answer, valuing_answer}
use Rattle.answers.specs.declared.Fraction.{Fraction}
use Rattle.claims_placings.specs.Given.{GivenAt, NeverGiven, OriginFits}
use Rattle.claims_points.specs.Live.{MeetsFifteen}
use Rattle.blended.specs.Blend.{uncertainty_at}
use Rattle.checks.specs.Checks.{no_refusal}
use Rattle.checks.specs.declared.Refusal.TheVariants.{BlockRoom, ImpossiblePlacing, LargeLiveScale, NetRoom}

-- ---- 17

-- Both valuing calls refuse a placing by 17 exactly where the placing call never gives it.
abbrev pub Seventeen : Type 0
Seventeen =
    (u : Unit) (net : List ℕ) (corrections : List ℤ) (uncertainties : List ℕ) (q : Placing) (flag : Bool)
    → ((valuing_answer u net corrections uncertainties q ≡ Err ImpossiblePlacing) ↔ NeverGiven u q)
    × ((live_valuing_answer u net corrections uncertainties q flag ≡ Err ImpossiblePlacing)
    ↔ NeverGiven u q)

-- Any other placing, of a unit with a net and a block, is that of a point whose numbers a caller can hand in.
abbrev pub Given : Type 0
Given =
    (u : Unit) (net : List ℕ) (corrections : List ℤ) (uncertainties : List ℕ) (q : Placing)
    → unit_checks u ≡ no_refusal → OriginFits u
    → (valuing_answer u net corrections uncertainties q ≡ Err ImpossiblePlacing → ⊥)
    → GivenAt u q

-- ---- two calls and one

-- Where the placing call gives a placing, a point call on the same point answers what the valuing call does.
abbrev pub TwoCalls : Type 0
TwoCalls =
    (u : Unit) (net : List ℕ) (corrections : List ℤ) (uncertainties : List ℕ) (x y z : ℤ)
    (D : ℕ) (q : Placing)
    → place_answer u x y z D ≡ Ok q
    → point_answer u net corrections uncertainties x y z D ≡ valuing_answer u net corrections uncertainties q

-- Where it refuses, the point call refuses by the same; but where a slice is too short, which the point call
-- looks at first, by 4 or 9.
abbrev pub TwoRefused : Type 0
TwoRefused =
    (u : Unit) (net : List ℕ) (corrections : List ℤ) (uncertainties : List ℕ) (x y z : ℤ)
    (D : ℕ) (r : Refusal)
    → place_answer u x y z D ≡ Err r
    → (let lent = lent_checks u (length net) (length corrections) (length uncertainties) in
    let exact = point_answer u net corrections uncertainties x y z D in
    (lent ≡ no_refusal → exact ≡ Err r)
    × ((s : Refusal) → lent ≡ Err s
    → (exact ≡ Err s) × ((s ≡ r) ⊎ ((s ≡ NetRoom) ⊎ (s ≡ BlockRoom)))))

-- The same of the live calls. A short slice and 15 are looked at in one order by the live call and in the
-- other by the live valuing call; only where both apply do the two answer differently.
abbrev pub LiveTwoCalls : Type 0
LiveTwoCalls =
    (u : Unit) (net : List ℕ) (corrections : List ℤ) (uncertainties : List ℕ) (x y z : ℤ)
    (D : ℕ) (flag : Bool)
    → (q : Placing) → place_answer u x y z D ≡ Ok q
    → (let room = room_checks u (length net) (length corrections) (length uncertainties) in
    let size = scale (degree (net_of u)) D in
    let whole = live_answer u net corrections uncertainties x y z D flag in
    let placed = live_valuing_answer u net corrections uncertainties q flag in
    (room ≡ no_refusal → whole ≡ placed)
    × (size ≤ live_limit → whole ≡ placed)
    × ((s : Refusal) → room ≡ Err s → live_limit < size
    → (whole ≡ Err s) × (placed ≡ Err LargeLiveScale)))

-- Where the placing call refuses, the live call refuses by 15 if no check before this applies to it and this
-- does, and else as the point call does.
abbrev pub LiveTwoRefused : Type 0
LiveTwoRefused =
    (u : Unit) (net : List ℕ) (corrections : List ℤ) (uncertainties : List ℕ) (x y z : ℤ)
    (D : ℕ) (flag : Bool)
    → (r : Refusal) → place_answer u x y z D ≡ Err r
    → (let lent = lent_checks u (length net) (length corrections) (length uncertainties) in
    let answer = live_answer u net corrections uncertainties x y z D flag in
    let Fifteen = MeetsFifteen u (length net) (length corrections) (length uncertainties) D in
    (Fifteen → answer ≡ Err LargeLiveScale)
    × ((Fifteen → ⊥) → lent ≡ no_refusal → answer ≡ Err r)
    × ((s : Refusal) → lent ≡ Err s
    → (answer ≡ Err s) × ((s ≡ r) ⊎ ((s ≡ NetRoom) ⊎ (s ≡ BlockRoom)))))

-- A placing that the valuing call answers is answered by the live one, with the same N and U, where m!×D^m is
-- at most 2^37, and else refused by 15.
abbrev pub LiveValued : Type 0
LiveValued =
    (u : Unit) (net : List ℕ) (corrections : List ℤ) (uncertainties : List ℕ) (q : Placing) (flag : Bool)
    → (f : Fraction) → valuing_answer u net corrections uncertainties q ≡ Ok f
    → (let answer = live_valuing_answer u net corrections uncertainties q flag in
    (f.denominator ≤ live_limit → answer ≡ Ok (live_value flag f.numerator f.uncertainty))
    × (live_limit < f.denominator → answer ≡ Err LargeLiveScale))

-- of a placing 15 is looked at, since no check before it applies, and applies
pub record PlacedFifteen (u : Unit) (q : Placing) : Type 0 where
  pub placing : placing_checks u q ≡ no_refusal
  pub above : live_limit < scale (degree (net_of u)) (weight_sum q)

-- One that the valuing call refuses is refused by the live one by 15 where this is looked at before and
-- applies, and else by the same number and place.
abbrev pub LiveValuedRefused : Type 0
LiveValuedRefused =
    (u : Unit) (net : List ℕ) (corrections : List ℤ) (uncertainties : List ℕ) (q : Placing) (flag : Bool)
    → (r : Refusal) → valuing_answer u net corrections uncertainties q ≡ Err r
    → (let answer = live_valuing_answer u net corrections uncertainties q flag in
    (PlacedFifteen u q → answer ≡ Err LargeLiveScale)
    × ((PlacedFifteen u q → ⊥) → answer ≡ Err r))

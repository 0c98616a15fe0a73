-- The answers of a live valuing call and of a live call, case by case.
use mathlib.Core.Bool.{Bool, false, true}
use mathlib.Core.List.{List}
use mathlib.Core.Path.{◌≡◌, refl}
use Prim.Native.Nat.{◌≤◌, ℕ}
use lib.IntN.{pos, ℤ}
use lib.ListN.{length}
use Rattle.sums.specs.Fill.{number_at}
use Rattle.spline.specs.Multiplicities.{degree}
use Rattle.checks.proofs.Checks.{then-passed}
use Rattle.checks.specs.declared.Refusal.{Refusal}
use Rattle.unit.specs.Unit.{net_of, sizes}
use Rattle.unit.specs.declared.Unit.{Unit}
use Rattle.limits.proofs.Accepted.{unit-passed}
use Rattle.limits.specs.Limits.{lent_checks, room_checks}
use Rattle.divisor_checks.proofs.Accepted.{live-accepted}
use Rattle.divisor_checks.specs.Divisor.{divisor_checks, live_divisor_checks, live_limit, live_scale_check, scale}
use Rattle.axis_order.specs.Weights.{weight_sum}
use Rattle.axis_order.specs.declared.Placing.{Placing}
use Rattle.placing.proofs.Placed.{place-refused}
use Rattle.placing.specs.Place.{inside_check, place_answer, position_checks}
use Rattle.possible.specs.Possible.{live_placing_checks, placed_checks, placing_checks}
use Rattle.floats.specs.Floats.{float}
use Rattle.answers.specs.Bernstein.{shift_numerator, uncertainty_numerator}
use Rattle.answers.specs.Live.{live_answer, live_checks, live_value, live_valuing_answer, live_valuing_checks}
use Rattle.blended.specs.Blend.{blend_checks, correction_at, uncertainty_at}
use Rattle.checks.specs.Checks.{Checked, and_then, no_refusal}
use Rattle.std.specs.Prelude.{Err, Ok, Result}
use Rattle.answers.specs.declared.LiveValue.{LiveValue}
use Rattle.answers.specs.declared.LiveValue.TheVariants.{Both, Shift}

-- ---- the flag

-- with the uncertainty switched on both floats are answered
pub switched-on : {flag : Bool} (N : ℤ) (U : ℕ) → flag ≡ true
    → live_value flag N U ≡ Both (record { numerator = float N; uncertainty = float (pos U) })
switched-on N U e = rw e refl

-- switched off, N alone
pub switched-off : {flag : Bool} (N : ℤ) (U : ℕ) → flag ≡ false → live_value flag N U ≡ Shift (float N)
switched-off N U e = rw e refl

-- ---- at a placing

-- a check that has passed is none
none_between : (a b c : Checked) → and_then (and_then a no_refusal) (and_then b c) ≡ and_then (and_then a b) c
none_between (Ok _) b c = refl
none_between (Err r) b c = refl

module _ (u : Unit) (net : List ℕ) (corrections : List ℤ) (uncertainties : List ℕ) (q : Placing)
    (with_uncertainty : Bool) where
  abbrev valued : Result LiveValue Refusal
  valued = live_valuing_answer u net corrections uncertainties q with_uncertainty

  module _ (f : live_scale_check (net_of u) (weight_sum q) ≡ no_refusal) where
    -- so m!×D^m is within the limit of a live call
    pub placed-within : scale (degree (net_of u)) (weight_sum q) ≤ live_limit
    placed-within = live-accepted (net_of u) (weight_sum q) f

    -- and the checks are those of a blending at the placing
    value-checks-left : live_valuing_checks u net corrections uncertainties q
        ≡ blend_checks u net corrections uncertainties q
    unfolding live_valuing_checks live_placing_checks blend_checks placed_checks
    value-checks-left =
        rw f
        (none_between (placing_checks u q)
        (room_checks u (length net) (length corrections) (length uncertainties)) _)

    -- so what it refuses is refused
    pub value-refused : {r : Refusal} → blend_checks u net corrections uncertainties q ≡ Err r
        → Err r ≡ valued
    unfolding live_valuing_answer
    value-refused k = rw (value-checks-left, k) refl

    -- and one that passed is answered with N and U
    pub value-answered : blend_checks u net corrections uncertainties q ≡ no_refusal
        → Ok (live_value with_uncertainty
        (shift_numerator (net_of u) (number_at net) (correction_at (sizes u) corrections) q)
        (uncertainty_numerator (net_of u) (number_at net) (uncertainty_at (sizes u) uncertainties) q))
        ≡ valued
    unfolding live_valuing_answer
    value-answered k = rw (value-checks-left, k) refl

-- ---- the live call, as placing and valuing in turn

module _ (u : Unit) (net : List ℕ) (corrections : List ℤ) (uncertainties : List ℕ) (x y z : ℤ) (D : ℕ)
    (with_uncertainty : Bool) where
  abbrev answer : Result LiveValue Refusal
  answer = live_answer u net corrections uncertainties x y z D with_uncertainty

  abbrev lent : Checked
  lent = lent_checks u (length net) (length corrections) (length uncertainties)

  -- what is lent is looked at first
  pub lent-refused : {r : Refusal} → lent ≡ Err r → Err r ≡ answer
  unfolding live_answer live_checks
  lent-refused h = rw h refl

  -- then the divisor
  pub divisor-refused : {r : Refusal} → lent ≡ no_refusal → live_divisor_checks (net_of u) D ≡ Err r
      → Err r ≡ answer
  unfolding live_answer live_checks
  divisor-refused l h = rw (l, h) refl

  module _ (l : lent ≡ no_refusal) (d : live_divisor_checks (net_of u) D ≡ no_refusal) where
    -- 10 and 11 have passed, and 15
    divisor-passed : (divisor_checks (net_of u) D ≡ no_refusal) × (live_scale_check (net_of u) D ≡ no_refusal)
    unfolding live_divisor_checks
    divisor-passed = then-passed (divisor_checks (net_of u) D) (live_scale_check (net_of u) D) d

    -- past it, what the placing call refuses is refused
    pub place-stops : {r : Refusal} → place_answer u x y z D ≡ Err r → Err r ≡ answer
    unfolding live_answer live_checks position_checks
    place-stops {r} h =
        let outside : inside_check u x y z D ≡ Err r
        = rw divisor-passed.0 at (place-refused u x y z D (unit-passed u _ _ _ l) h) in
        rw (l, d, outside) refl

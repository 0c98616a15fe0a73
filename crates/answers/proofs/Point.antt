-- The answers of a valuing call and of a point call, case by case.
use mathlib.Core.List.{List}
use mathlib.Core.Path.{◌≡◌, ap₂, refl, sym}
use Prim.Native.Nat.{ℕ}
use lib.IntN.{ℤ}
use lib.ListN.{length}
use Rattle.sums.specs.Fill.{number_at}
use Rattle.checks.specs.declared.Refusal.{Refusal}
use Rattle.unit.specs.Unit.{net_of, sizes}
use Rattle.unit.specs.declared.Unit.{Unit}
use Rattle.limits.proofs.Accepted.{unit-passed}
use Rattle.limits.specs.Limits.{lent_checks, room_checks}
use Rattle.axis_order.specs.Weights.{weight_sum}
use Rattle.axis_order.specs.declared.Placing.{Placing}
use Rattle.placing.proofs.Placed.{place-refused}
use Rattle.placing.specs.Place.{place_answer}
use Rattle.possible.proofs.PlacedPossible.{placed}
use Rattle.possible.specs.Possible.{placed_checks}
use Rattle.answers.specs.Point.{fraction_at, point_answer, point_checks, valuing_answer}
use Rattle.blended.specs.Blend.{blend_checks, correction_at, window_checks}
use Rattle.checks.specs.Checks.{Checked, and_then, no_refusal, passed_or}
use Rattle.std.specs.Prelude.{Err, Ok, Result}
use Rattle.answers.specs.declared.Fraction.{Fraction}

module _ (u : Unit) (net : List ℕ) (corrections : List ℤ) (uncertainties : List ℕ) where
  abbrev lent : Checked
  lent = lent_checks u (length net) (length corrections) (length uncertainties)

  -- ---- the valuing call

  module _ (q : Placing) where
    abbrev value-checks : Checked
    value-checks = blend_checks u net corrections uncertainties q

    abbrev answer : Result Fraction Refusal
    answer = valuing_answer u net corrections uncertainties q

    -- what a blending refuses is refused
    pub value-refused : {r : Refusal} → value-checks ≡ Err r → Err r ≡ answer
    unfolding valuing_answer
    value-refused h = rw h refl

    module _ (e : value-checks ≡ no_refusal) where
      -- and what it lets pass is answered with the fraction
      pub value_made : Ok (fraction_at u net corrections uncertainties q (weight_sum q)) ≡ answer
      unfolding valuing_answer
      value_made = rw e refl

  -- ---- the point call, as placing and valuing in turn

  module _ (x y z : ℤ) (D : ℕ) where
    abbrev whole : Result Fraction Refusal
    whole = point_answer u net corrections uncertainties x y z D

    -- what is lent is looked at first
    pub lent-refused : {r : Refusal} → lent ≡ Err r → Err r ≡ whole
    unfolding point_answer point_checks
    lent-refused h = rw h refl

    -- past it, what the placing call refuses is refused
    pub place-stops : {r : Refusal} → lent ≡ no_refusal → place_answer u x y z D ≡ Err r
        → Err r ≡ whole
    unfolding point_answer point_checks
    place-stops l h = rw (l, place-refused u x y z D (unit-passed u _ _ _ l) h) refl

    -- and what it places is valued
    pub two-calls : {q : Placing} → place_answer u x y z D ≡ Ok q
        → whole ≡ valuing_answer u net corrections uncertainties q
    unfolding point_answer point_checks valuing_answer blend_checks placed_checks lent_checks
    two-calls {q} h =
        let p = placed u x y z D h in
        let room = room_checks u (length net) (length corrections) (length uncertainties) in
        rw (p.unit-passed, p.position-passed, p.placing-passed)
        (ap₂ (λ (t : Placing) (d : ℕ). passed_or (and_then room (window_checks (net_of u) (sizes u) (number_at net)
        (correction_at (sizes u) corrections) t)) (Ok (fraction_at u net corrections uncertainties t d))
        Err)
        (sym p.is) (sym p.divisor-is))

-- The live call beside placing and valuing in turn: the checks are the same, but a short slice and 15 are
-- looked at in another order.
use mathlib.Core.Bool.{Bool}
use mathlib.Core.List.{List}
use mathlib.Core.Path.{◌∙◌, ◌≡◌, ap₂, refl, sym}
use Prim.Native.Nat.{ℕ}
use lib.IntN.{ℤ}
use lib.ListN.{length}
use Rattle.sums.specs.Fill.{number_at}
use Rattle.checks.proofs.Checks.{then-passed}
use Rattle.checks.specs.declared.Refusal.{Refusal}
use Rattle.unit.specs.Unit.{net_of, sizes}
use Rattle.unit.specs.declared.Unit.{Unit}
use Rattle.limits.specs.Limits.{lent_checks, room_checks}
use Rattle.divisor_checks.specs.Divisor.{divisor_checks, live_divisor_checks, live_scale_check}
use Rattle.axis_order.specs.Weights.{weight_sum}
use Rattle.axis_order.specs.declared.Placing.{Placing}
use Rattle.placing.specs.Place.{place_answer, position_checks}
use Rattle.placing.specs.Placing.{placing}
use Rattle.possible.proofs.PlacedPossible.{Placed, placed}
use Rattle.possible.specs.Possible.{live_placing_checks}
use Rattle.answers.specs.Bernstein.{shift_numerator, uncertainty_numerator}
use Rattle.answers.specs.Live.{live_answer, live_checks, live_value, live_valuing_answer, live_valuing_checks}
use Rattle.blended.specs.Blend.{correction_at, uncertainty_at, window_checks}
use Rattle.checks.specs.Checks.{Checked, and_then, no_refusal, passed_or}
use Rattle.std.specs.Prelude.{Err, Ok, Result}
use Rattle.answers.specs.declared.LiveValue.{LiveValue}

module _ (u : Unit) (net : List ℕ) (corrections : List ℤ) (uncertainties : List ℕ) (flag : Bool) where
  abbrev pub room : Checked
  room = room_checks u (length net) (length corrections) (length uncertainties)

  abbrev pub fifteen : Placing → Checked
  fifteen q = live_scale_check (net_of u) (weight_sum q)

  abbrev pub window : Placing → Checked
  window q = window_checks (net_of u) (sizes u) (number_at net) (correction_at (sizes u) corrections) q

  abbrev pub value : Placing → Result LiveValue Refusal
  value q =
      Ok
      (live_value flag (shift_numerator (net_of u) (number_at net) (correction_at (sizes u) corrections) q)
      (uncertainty_numerator (net_of u) (number_at net) (uncertainty_at (sizes u) uncertainties) q))

  module _ {x y z : ℤ} {D : ℕ} {q : Placing} (p : Placed u x y z D q) where
    whole-at : live_answer u net corrections uncertainties x y z D flag
        ≡ passed_or (and_then room (and_then (live_scale_check (net_of u) D) (window (placing u x y z D))))
        (value (placing u x y z D)) Err
    unfolding live_answer live_checks lent_checks live_divisor_checks position_checks
    whole-at =
        let t = then-passed (divisor_checks (net_of u) D) _ p.position-passed in
        rw (p.unit-passed, t.0, t.1) refl

    -- the live call looks at the slices first
    pub slices-first : live_answer u net corrections uncertainties x y z D flag
        ≡ passed_or (and_then room (and_then (fifteen q) (window q))) (value q) Err
    slices-first =
        whole-at
        ∙ ap₂ (λ (t : Placing) (d : ℕ).
        passed_or (and_then room (and_then (live_scale_check (net_of u) d) (window t))) (value t) Err)
        (sym p.is) (sym p.divisor-is)

    -- the live valuing call at 15
    pub fifteen-first : live_valuing_answer u net corrections uncertainties q flag
        ≡ passed_or (and_then (fifteen q) (and_then room (window q))) (value q) Err
    unfolding live_valuing_answer live_valuing_checks live_placing_checks
    fifteen-first = rw p.placing-passed refl

    -- so a slice that is too short is refused where the point is placed
    pub short-refused : {r : Refusal} → room ≡ Err r
        → Err r ≡ live_answer u net corrections uncertainties x y z D flag
    short-refused e = sym (slices-first ∙ rw e refl)

  -- where the slices are long enough, both answer the same
  pub in-turn : (x y z : ℤ) (D : ℕ) {q : Placing} → room ≡ no_refusal
      → place_answer u x y z D ≡ Ok q
      → live_answer u net corrections uncertainties x y z D flag
      ≡ live_valuing_answer u net corrections uncertainties q flag
  in-turn x y z D e h =
      let p = placed u x y z D h in slices-first p ∙ rw e refl ∙ sym (fifteen-first p)

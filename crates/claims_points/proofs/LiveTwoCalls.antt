-- Placing and valuing in turn beside the live call, and beside valuing alone.
use mathlib.Core.Bool.{Bool}
use mathlib.Core.List.{List}
use mathlib.Core.Path.{◌∙◌, ◌≡◌, refl, sym}
use Prim.Native.Nat.{ℕ}
use lib.IntN.{ℤ}
use lib.ListN.{length}
use Rattle.checks.proofs.Checks.{made-by, refused-by, stopped-passed, then-passed}
use Rattle.checks.specs.declared.Refusal.{Refusal}
use Rattle.unit.specs.Unit.{net_of}
use Rattle.unit.specs.declared.Unit.{Unit}
use Rattle.axis_order.specs.Weights.{weight_sum}
use Rattle.axis_order.specs.declared.Placing.{Placing}
use Rattle.placing.specs.Placing.{placing}
use Rattle.possible.proofs.PlacedPossible.{placed}
use Rattle.possible.specs.Possible.{live_placing_checks, placed_checks, placing_checks}
use Rattle.answers.specs.Live.{live_valuing_answer, live_valuing_checks}
use Rattle.answers.specs.Point.{valuing_answer}
use Rattle.claims_points.proofs.Chains.{room, window}
use Rattle.claims_points.proofs.Live.{above-limit, fifteen-passes, fifteen-stops, live-refused}
use Rattle.claims_points.proofs.TwoCalls.{two-refused}
use Rattle.claims_points.specs.Placings.{LiveTwoCalls, LiveTwoRefused, LiveValued, LiveValuedRefused}
use Rattle.claims_points.specs.Placings.{PlacedFifteen}
use Rattle.blended.specs.Blend.{blend_checks}
use Rattle.answers.proofs.InTurn as in-turn
use Rattle.checks.specs.Checks.{Checked, and_then, no_refusal, passed_or}
use Rattle.std.specs.Prelude.{Err, Ok, Result}
use Rattle.answers.specs.declared.LiveValue.{LiveValue}
use Rattle.checks.specs.declared.Refusal.TheVariants.{LargeLiveScale}

module _ (u : Unit) (net : List ℕ) (corrections : List ℤ) (uncertainties : List ℕ) (flag : Bool) where
  abbrev slices : Checked
  slices = room u net corrections (length uncertainties)

  abbrev fifteen : Placing → Checked
  fifteen = in-turn.fifteen u net corrections uncertainties flag

  abbrev value : Placing → Result LiveValue Refusal
  value = in-turn.value u net corrections uncertainties flag

  -- where the valuing call passes all checks, 15 is left to the live one
  valued-is : (q : Placing) → blend_checks u net corrections uncertainties q ≡ no_refusal
      → live_valuing_answer u net corrections uncertainties q flag
      ≡ passed_or (and_then (fifteen q) no_refusal) (value q) Err
  unfolding live_valuing_answer live_valuing_checks live_placing_checks blend_checks placed_checks
  valued-is q h =
      let a = then-passed (and_then (placing_checks u q) slices) (window u net corrections q) h in
      let b = then-passed (placing_checks u q) slices a.0 in
      rw (b.0, b.1, a.1) refl

  -- the live valuing call goes by its chain of checks
  checked-is : (q : Placing)
      → live_valuing_answer u net corrections uncertainties q flag
      ≡ passed_or (live_valuing_checks u net corrections uncertainties q) (value q) Err
  unfolding live_valuing_answer
  checked-is q = refl

  -- in which 15 stops where it is looked at and applies
  fifteen-first-stops : (q : Placing) → PlacedFifteen u q
      → live_valuing_checks u net corrections uncertainties q ≡ Err LargeLiveScale
  unfolding live_valuing_checks live_placing_checks
  fifteen-first-stops q m = rw (m.placing, fifteen-stops (net_of u) (weight_sum q) m.above) refl

  -- else, what stops the valuing call stops it
  stopped-alike : (q : Placing) {r : Refusal}
      → blend_checks u net corrections uncertainties q ≡ Err r
      → (PlacedFifteen u q → ⊥) → live_valuing_checks u net corrections uncertainties q ≡ Err r
  unfolding live_valuing_checks live_placing_checks blend_checks placed_checks
  stopped-alike q {r} h unmet = go (placing_checks u q) (fifteen q) refl refl
    where
      go : (a b : Checked) → placing_checks u q ≡ a → fifteen q ≡ b
          → live_valuing_checks u net corrections uncertainties q ≡ Err r
      go (Err s) b ea eb = rw ea (rw ea at h)
      go (Ok _) (Ok _) ea eb = rw (ea, eb) (rw ea at h)
      go (Ok _) (Err s) ea eb =
          absurd (unmet (record { placing = ea; above = above-limit (net_of u) (weight_sum q) eb }))

-- ---- the demands

pub live-two-calls : LiveTwoCalls
live-two-calls u net corrections uncertainties x y z D flag q h =
    let p = placed u x y z D h in
    let whole = in-turn.slices-first u net corrections uncertainties flag p in
    let valued = in-turn.fifteen-first u net corrections uncertainties flag p in (
      λ e. in-turn.in-turn u net corrections uncertainties flag x y z D e h,
      λ e. whole ∙ rw (p.divisor-is, fifteen-passes (net_of u) D e) refl ∙ sym valued,
      λ s e l. (whole ∙ rw e refl, valued ∙ rw (p.divisor-is, fifteen-stops (net_of u) D l) refl),
    )

pub live-two-refused : LiveTwoRefused
live-two-refused u net corrections uncertainties x y z D flag r h =
    let two = two-refused u net corrections uncertainties x y z D r h in
    let live = live-refused u net corrections uncertainties x y z D flag in (
      λ m. (live r (two.0 m.lent)).0 m,
      λ unmet e. (live r (two.0 e)).1 unmet,
      λ s e.
          let t = two.1 s e in
          ((live s t.0).1 (λ m. stopped-passed s (sym e ∙ m.lent)), t.1),
    )

pub live-valued : LiveValued
unfolding valuing_answer
live-valued u net corrections uncertainties q flag f h =
    let k = made-by (blend_checks u net corrections uncertainties q) _ h in
    let valued = valued-is u net corrections uncertainties flag q k.0 in
    rw k.1 (
      λ l. valued ∙ rw (fifteen-passes (net_of u) (weight_sum q) l) refl,
      λ l. valued ∙ rw (fifteen-stops (net_of u) (weight_sum q) l) refl,
    )

pub live-valued-refused : LiveValuedRefused
unfolding valuing_answer
live-valued-refused u net corrections uncertainties q flag r h =
    let stop = refused-by (blend_checks u net corrections uncertainties q) _ h in
    let by-checks = checked-is u net corrections uncertainties flag q in (
      λ m. by-checks ∙ rw (fifteen-first-stops u net corrections uncertainties flag q m) refl,
      λ unmet. by-checks ∙ rw (stopped-alike u net corrections uncertainties flag q stop unmet) refl,
    )

-- The checks before 4 come first; past them the blending decides, and its numbers sum to N and U.
use mathlib.Core.Path.{◌∙◌, ◌≡◌, ap, sym}
use Rattle.unit.specs.Unit.{net_of}
use Rattle.divisor_checks.specs.Divisor.{live_scale_check}
use Rattle.axis_order.specs.Weights.{weight_sum}
use Rattle.answers.proofs.Live.{placed-within, value-answered, value-refused}
use Rattle.answers.specs.Live.{live_value}
use Rattle.answers.specs.declared.Fraction.{Fraction}
use Rattle.parts.proofs.Blended.{value-scaled}
use Rattle.in_turn.proofs.Early.{early-refused, past-fifteen}
use Rattle.blended.specs.Blend.{blend_checks}
use Rattle.parts.proofs.Blended as blended
use Rattle.live.proofs.value.Goals as goal
use Rattle.live.proofs.value.Goals.{In_ok-check_early, In_ok-blend}
use Rattle.checks.proofs.Checks.{passed_on}
use Rattle.std.specs.Prelude.{Ok}
use Rattle.checks.specs.Checks.{no_refusal}

-- 15 does not apply
fifteen-passed : (c : In_ok-check_early) → live_scale_check (net_of c.args.unit) (weight_sum c.args.q) ≡ no_refusal
fifteen-passed c =
    let a = c.args in
    past-fifteen a.unit a.lent.net.now a.lent.corrections.now a.lent.uncertainties.now a.q a.with_uncertainty
    (sym c.check_early.ensures ∙ c.in_ok-check_early.was)

-- once the placing is blended
module _ (c : In_ok-blend) where
  passed : (let a = c.args in
      blend_checks a.unit a.lent.net.now a.lent.corrections.now a.lent.uncertainties.now a.q ≡ no_refusal)
  passed = sym c.blend.ensures.value ∙ c.in_ok-blend.was

  left : (let a = c.args in
      let l = c.blend.new in
      blended.Blended a.unit a.lent.net.now a.lent.corrections.now a.lent.uncertainties.now a.q
      l.shifts l.spreads)
  left =
      let b = c.blend.ensures in
      let went = c.in_ok-blend.was in
      blended.blended _ _ _ _ _ _ went (value-scaled _ _ _ _ _ passed) b.shifts_after b.spreads_after
      (b.sized went)

pub returns-in_err-check_early : goal.returns-in_err-check_early
returns-in_err-check_early c =
    passed_on _ c.from_residual.ensures
    ∙ early-refused _ _ _ _ _ _ (sym c.check_early.ensures ∙ c.in_err-check_early.was)

pub returns-in_err-blend : goal.returns-in_err-blend
returns-in_err-blend c =
    passed_on _ c.from_residual-in_err-blend.ensures
    ∙ value-refused _ _ _ _ _ _ (fifteen-passed (goal.at.returns-in_err-blend c).In_ok-check_early)
    (sym c.blend.ensures.value ∙ c.in_err-blend.was)

pub summed-requires : goal.summed-requires
summed-requires c =
    let places = goal.at.summed-requires c in
    let a = c.args in
    let l = left places.In_ok-blend in (
      l.scaled,
      placed-within a.unit a.lent.net.now a.lent.corrections.now a.lent.uncertainties.now a.q
          a.with_uncertainty (fifteen-passed places.In_ok-check_early),
      l.sized,
    )

pub returns : goal.returns
returns c =
    let places = goal.at.returns c in
    ap Ok
    (c.summed.ensures
    ∙ ap (λ (f : Fraction). live_value c.args.with_uncertainty f.numerator f.uncertainty)
    (left places.In_ok-blend).made)
    ∙ value-answered _ _ _ _ _ _ (fifteen-passed places.In_ok-check_early) (passed places.In_ok-blend)

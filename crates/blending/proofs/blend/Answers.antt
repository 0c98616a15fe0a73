-- The checks come in the definition's order; a placing that passes them has all that a blending asks for.
use mathlib.Core.Path.{◌∙◌, ◌≡◌, sym}
use borrow.Author.Rules.{rules}
use lib.ListN.{length}
use Rattle.checks.proofs.Checks.{passed_on, stopped-passed}
use Rattle.possible.proofs.FieldTests.{placed-accepted}
use Rattle.possible.specs.Possible.{placed_checks}
use Rattle.blended.proofs.Answers.{fit_at, nothing_written, placed-goes-on, placed-stops}
use Rattle.blending.proofs.blend.Goals as goal
use Rattle.blending.proofs.blend.Goals.{In_ok-check_placed}
use Rattle.checks.specs.Checks.{no_refusal}

-- the placing and what is lent have passed their checks
module _ (c : In_ok-check_placed) where
  passed : (let a = c.args in
      placed_checks a.unit a.q (length a.lent.net.now) (length a.lent.corrections.now)
      (length a.lent.uncertainties.now)
      ≡ no_refusal)
  passed = sym c.check_placed.ensures ∙ c.in_ok-check_placed.was

pub returns-in_err-check_placed : goal.returns-in_err-check_placed
returns-in_err-check_placed c =
    let a = c.args in
    let e = sym c.check_placed.ensures ∙ c.in_err-check_placed.was in
    let k = passed_on _ c.from_residual.ensures in record {
      value = k ∙ placed-stops a.unit a.lent.net.now a.lent.corrections.now a.lent.uncertainties.now a.q e;
      shifts_after = nothing_written _ a.unit a.shifts.now k;
      spreads_after = nothing_written _ a.unit a.spreads.now k;
      sized = λ h. stopped-passed _ (sym k ∙ h);
    }

pub blend_at-requires : goal.blend_at-requires
blend_at-requires c =
    let a = c.args in
    let p = placed-accepted a.unit a.q _ _ _ (passed (goal.at.blend_at-requires c).In_ok-check_placed) in (
      fit_at a.unit _ _ _ a.q p.1 p.0.possible.point_inside p.0.possible.axes,
      search rules,
      search rules,
    )

pub returns : goal.returns
returns c =
    let a = c.args in
    let made = c.blend_at.ensures in record {
      value = made.value
          ∙ placed-goes-on a.unit a.lent.net.now a.lent.corrections.now a.lent.uncertainties.now a.q
          (passed (goal.at.returns c).In_ok-check_placed);
      shifts_after = made.shifts_after;
      spreads_after = made.spreads_after;
      sized = made.sized;
    }

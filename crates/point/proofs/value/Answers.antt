-- The arrays that the blending has written hold the blended numbers, whose Bernstein sums are N and U.
use mathlib.Core.List.{List}
use mathlib.Core.Path.{◌∙◌, ◌≡◌, ap, sym}
use Prim.Native.Nat.{ℕ}
use lib.IntN.{ℤ}
use Rattle.answers.proofs.Point.{value_made, value-refused}
use Rattle.parts.proofs.Blended.{value-scaled}
use Rattle.blended.specs.Blend.{blend_checks}
use Rattle.parts.proofs.Blended as blended
use Rattle.point.proofs.value.Goals as goal
use Rattle.point.proofs.value.Goals.{In_ok-blend}
use Rattle.std.specs.Prelude.{Ok}
use Rattle.checks.proofs.Checks.{passed_on}
use Rattle.checks.specs.Checks.{no_refusal}

-- once the placing is blended
module _ (c : In_ok-blend) where
  abbrev shifts : List ℤ
  shifts = c.blend.new.shifts

  abbrev spreads : List ℕ
  spreads = c.blend.new.spreads

  passed : (let a = c.args in
      blend_checks a.unit a.lent.net.now a.lent.corrections.now a.lent.uncertainties.now a.q
      ≡ no_refusal)
  passed = sym c.blend.ensures.value ∙ c.in_ok-blend.was

  left : (let a = c.args in
      blended.Blended a.unit a.lent.net.now a.lent.corrections.now a.lent.uncertainties.now a.q shifts
      spreads)
  left =
      let b = c.blend.ensures in
      let went = c.in_ok-blend.was in
      blended.blended _ _ _ _ _ _ went (value-scaled _ _ _ _ _ passed) b.shifts_after b.spreads_after
      (b.sized went)

pub returns-in_err-blend : goal.returns-in_err-blend
returns-in_err-blend c =
    passed_on _ c.from_residual.ensures
    ∙ value-refused _ _ _ _ _ (sym c.blend.ensures.value ∙ c.in_err-blend.was)

pub summed-requires : goal.summed-requires
summed-requires c = let l = left (goal.at.summed-requires c).In_ok-blend in (l.scaled, l.sized)

pub returns : goal.returns
returns c = ap Ok (c.summed.ensures ∙ (left (goal.at.returns c).In_ok-blend).made) ∙ value_made _ _ _ _ _ (passed (goal.at.returns c).In_ok-blend)

-- The test is that of the definition, and says that the multiplicities are within the limits.
use mathlib.Core.Bool.{true}
use mathlib.Core.Path.{◌∙◌, ◌≡◌, sym}
use Rattle.spline.specs.Multiplicities.{allowed}
use Rattle.allowed.proofs.Limits.{allowed-limits}
use Rattle.shape.specs.Shape.{counted}
use Rattle.orders.proofs.one_more.Goals as goal
use Rattle.orders.proofs.one_more.Goals.{Else-not-multiplicities_allowed}

within : (c : Else-not-multiplicities_allowed) → allowed (counted c.args.c) ≡ true
within c = sym c.multiplicities_allowed.ensures ∙ c.if-not-multiplicities_allowed.false

pub returns-then-not-multiplicities_allowed : goal.returns-then-not-multiplicities_allowed
returns-then-not-multiplicities_allowed c =
    simp (sym c.multiplicities_allowed.ensures ∙ c.if-not-multiplicities_allowed.true)

pub repeated-requires : goal.repeated-requires
repeated-requires c = allowed-limits _ (within (goal.at.repeated-requires c).Else-not-multiplicities_allowed)

pub returns : goal.returns
returns c = simp (within (goal.at.returns c).Else-not-multiplicities_allowed) c.repeated.ensures

-- The degree is that of the unit's net; the flag decides which floats are answered.
use mathlib.Core.Path.{◌∙◌, ◌≡◌, ap, ap₂, sym}
use Prim.Native.Nat.{ℕ}
use lib.Ieee.{Float}
use lib.IntN.{pos, ℤ}
use Rattle.sums.specs.Fill.{number_at, signed_at}
use Rattle.spline.specs.Multiplicities.{degree}
use Rattle.floats.specs.Floats.{float}
use Rattle.unit.specs.Unit.{net_of}
use Rattle.answers.proofs.Live.{switched-off, switched-on}
use Rattle.parts.specs.Parts.{parts_to}
use Rattle.live.proofs.summed.Goals as goal
use Rattle.live.proofs.summed.Goals.{After-degree_of-m}
use Rattle.answers.specs.declared.LiveValue.TheVariants.{Both, Shift}

-- the sums are of the degree of the unit's net
module _ (c : After-degree_of-m) where
  degree-is : c.degree_of-m.result ≡ degree (net_of c.args.unit)
  degree-is = c.degree_of-m.ensures.0 ∙ ap degree c.of_unit.ensures

  abbrev made : {A : Type 0} → (ℤ → ℕ → A) → ℕ → A
  made f m =
      let a = c.args in
      f (parts_to m a.q (signed_at a.shifts.now) (number_at a.spreads.now)).numerator
      (parts_to m a.q (signed_at a.shifts.now) (number_at a.spreads.now)).uncertainty

  parts_are : {A : Type 0} (f : ℤ → ℕ → A)
      → made f c.degree_of-m.result ≡ made f (degree (net_of c.args.unit))
  parts_are f = ap (made f) degree-is

pub float_sums-sums-requires : goal.float_sums-sums-requires
float_sums-sums-requires c = rw (degree-is (goal.at.float_sums-sums-requires c).After-degree_of-m) c.requires

pub returns-then-with_uncertainty : goal.returns-then-with_uncertainty
returns-then-with_uncertainty c =
    ap₂ (λ (n u : Float). Both (record { numerator = n; uncertainty = u })) c.float_sums-sums.ensures.0
    c.float_sums-sums.ensures.1
    ∙ parts_are (goal.at.returns-then-with_uncertainty c).After-degree_of-m
    (λ N U. Both (record { numerator = float N; uncertainty = float (pos U) }))
    ∙ sym (switched-on _ _ c.if-with_uncertainty.true)

pub returns : goal.returns
returns c =
    ap Shift c.float_sums-sums.ensures.0
    ∙ parts_are (goal.at.returns c).After-degree_of-m (λ N U. Shift (float N))
    ∙ sym (switched-off _ _ c.if-with_uncertainty.false)

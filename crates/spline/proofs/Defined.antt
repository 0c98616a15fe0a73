-- The laws of the defined net.
use mathlib.Core.Path.{◌∙◌, ◌≡◌, subst, sym}
use Prim.Native.Nat.{ℕ}
use Rattle.sums.specs.Coefficient.{factorial}
use Rattle.spline.proofs.Chain.{only}
use Rattle.spline.proofs.Low.{ZeroLow}
use Rattle.spline.proofs.Multiplicities.{Positive}
use Rattle.spline.proofs.OrderNet.{order-high, order-low, order-unity}
use Rattle.spline.proofs.Orders.{defined-fewer, order-of-defined}
use Rattle.spline.proofs.Solution.{Vanishes, stepped-obeys}
use Rattle.spline.proofs.Support.{ZeroHigh}
use Rattle.spline.proofs.Unity.{Unity}
use Rattle.spline.specs.Defined.{defined, defined_order}
use Rattle.spline.specs.Multiplicities.{HasRepeat, Multiplicities, degree, extent, fewer}
use Rattle.spline.specs.Place.{Direction, Net}
use Rattle.spline.specs.Rule.{Obeys}

-- it is 0 where a coordinate is not positive
pub defined-low : (v : Multiplicities) → ZeroLow (defined v)
unfolding defined
defined-low v = order-low (defined_order v)

module _ (v : Multiplicities) (p : Positive v) where
  -- and from the extents of its box on
  pub defined-high : ZeroHigh (degree v) (extent v) (defined v)
  unfolding defined
  defined-high =
      subst (λ (w : Multiplicities). ZeroHigh (degree w) (extent w) (defined v)) (order-of-defined v p)
      (order-high (defined_order v))

  -- its numbers a whole degree apart add up to m!
  pub defined-unity : Unity (degree v) (extent v) (factorial (degree v)) (defined v)
  unfolding defined
  defined-unity =
      subst (λ (w : Multiplicities). Unity (degree w) (extent w) (factorial (degree w)) (defined v))
      (order-of-defined v p)
      (order-unity (defined_order v))

  -- in each direction with a repeat the rule holds at every place, with the defined net of one repeat fewer,
  -- and for no other net that is 0 far below
  module _ (d : Direction) (h : HasRepeat d v) where
    -- the defined net obeys it
    pub defined-obeys : Obeys d (degree (fewer d v)) (defined (fewer d v)) (defined v)
    defined-obeys =
        subst (Obeys d (degree (fewer d v)) (defined (fewer d v))) (sym (defined-fewer d v p h))
        (stepped-obeys d (degree (fewer d v)) (defined (fewer d v)))

    -- and every such net is the defined one
    pub defined-only : (C : Net) (N : ℕ) → Vanishes N C → Obeys d (degree (fewer d v)) (defined (fewer d v)) C
        → C ≡ defined v
    defined-only C N z o =
        only d (degree (fewer d v)) (defined (fewer d v)) C N (defined-low (fewer d v)) o z
        ∙ sym (defined-fewer d v p h)

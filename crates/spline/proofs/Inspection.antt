-- A list over the box obeys the rule in a direction with a repeat exactly when it is the defined net's list.
use mathlib.Core.List.{List}
use mathlib.Core.Logic.{◌↔◌}
use mathlib.Core.Path.{◌∙◌, ◌≡◌, ap, subst, sym}
use Prim.Native.Nat.{◌*◌, ◌≤◌, ℕ}
use native.Mathlib.Omega.{arith}
use lib.ListN.{length, take}
use Rattle.spline.proofs.Box.{list-spread, spread-list, spread-vanishes}
use Rattle.spline.proofs.Defined.{defined-high, defined-low, defined-obeys, defined-only}
use Rattle.spline.proofs.Multiplicities.{Positive}
use Rattle.spline.proofs.Support.{High, high-mono}
use Rattle.spline.specs.Box.{net_list, places, spread, width}
use Rattle.spline.specs.Defined.{defined}
use Rattle.spline.specs.Multiplicities.{HasRepeat, Multiplicities, degree, extent, fewer}
use Rattle.spline.specs.Place.{Axis, Direction, Net, Place}
use Rattle.spline.specs.Rule.{Obeys}

module _ (v : Multiplicities) (p : Positive v) where
  abbrev W : Axis → ℕ
  W = width v

  -- a defined net is 0 outside its box
  pub defined-outside : (q : Place) (b : Axis) → High (W b) (q b) → defined v q ≡ 0
  defined-outside q b h =
      (defined-high v p).zero_high q b (high-mono (W b) (degree v * extent v b) (q b) (omega arith) h)

  module _ (s : List ℕ) (room : places W ≤ length s) where
    -- the slice's first places are the defined net's list
    abbrev IsDefined : Type 0
    IsDefined = take (places W) s ≡ net_list W (defined v)

    -- then, read as a net, it is the defined one, which has only 0 outside the box; and the other way round
    pub list-defined : IsDefined → spread W s ≡ defined v
    list-defined = spread-list W s (defined v) (defined-low v) defined-outside

    pub defined-list : spread W s ≡ defined v → IsDefined
    defined-list e = list-spread W s room ∙ ap (net_list W) e

    module _ (d : Direction) (h : HasRepeat d v) where
      abbrev ObeysHere : Net → Type 0
      ObeysHere C = Obeys d (degree (fewer d v)) (defined (fewer d v)) C

      to : IsDefined → ObeysHere (spread W s)
      to e = subst ObeysHere (sym (list-defined e)) (defined-obeys v p d h)

      from : ObeysHere (spread W s) → IsDefined
      from o = defined-list (defined-only v p d h (spread W s) 0 (spread-vanishes W s) o)

      -- the slice holds the defined net exactly where it obeys the rule, in a direction with a repeat
      pub list-obeys : IsDefined ↔ ObeysHere (spread W s)
      list-obeys = (to, from)

-- The weights of a point's placing, and its axes.
use mathlib.Core.Path.{◌≡◌}
use Prim.Native.Nat.{◌≤◌, ℕ}
use native.Mathlib.Omega.{arith}
use lib.IntN.{ℤ}
use Rattle.unit.specs.declared.Unit.{Unit}
use Rattle.coordinates.proofs.Faces.{remainder-most}
use Rattle.coordinates.specs.Coordinates.{distance}
use Rattle.axis_order.proofs.Ranks.{falling, ordered}
use Rattle.axis_order.specs.Inner.Ranking.{Axes}
use Rattle.axis_order.specs.Weights.{weight_sum}
use Rattle.placing.specs.Placing.{placing}

module _ (u : Unit) (x y z : ℤ) (D : ℕ) where
  -- the weights of a point's placing add up to its divisor
  pub weights-add-up : 1 ≤ D → weight_sum (placing u x y z D) ≡ D
  unfolding placing
  weights-add-up h =
      let f =
      falling _ _ _ D (remainder-most (distance x u.o1 D) D u.n1 h)
      (remainder-most (distance y u.o2 D) D u.n2 h)
      (remainder-most (distance z u.o3 D) D u.n3 h) in
      omega arith

  -- the axes p, r, s of a placing are the three axes
  pub placing-axes : Axes (placing u x y z D).p (placing u x y z D).r (placing u x y z D).s
  unfolding placing
  placing-axes = (ordered _).axes

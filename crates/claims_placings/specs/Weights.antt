-- The axis order and the weights of a point, said without the way in which they are found: Section 14.5.
use Rattle.std.specs.Prelude.{Ok, ℕ, ℤ, ◌+◌, ◌<◌, ◌≡◌, ◌⊎◌}
use Rattle.spline.specs.Place.{Axis, on_axes}
use Rattle.unit.specs.declared.Unit.{Unit}
use Rattle.coordinates.specs.Coordinates.{distance, located}
use Rattle.axis_order.specs.AxisOrder.{AxisRanks, axis_number, rank_axes}
use Rattle.axis_order.specs.Weights.{weight_sum}
use Rattle.axis_order.specs.declared.Placing.{Placing}
use Rattle.placing.specs.Place.{place_answer}

-- ---- the axis order

-- Section 9.3: axis a stands before axis b, as its remainder is the larger, or the same and a is the lower
-- axis
abbrev pub StandsBefore : (Axis → ℕ) → Axis → Axis → Type 0
StandsBefore u a b = (u b < u a) ⊎ ((u b ≡ u a) × (axis_number a < axis_number b))

-- p, r, s are the three axes, each standing before the next
pub record InOrder (u : Axis → ℕ) (o : AxisRanks) : Type 0 where
  pub all_three : (b : Axis) → (b ≡ o.p) ⊎ ((b ≡ o.r) ⊎ (b ≡ o.s))
  pub first : StandsBefore u o.p o.r
  pub second : StandsBefore u o.r o.s

-- Of any three remainders the axes are ranked in this order.
abbrev pub AxisOrder : Type 0
AxisOrder = (u : Axis → ℕ) → InOrder u (rank_axes u)

-- ---- the weights

-- Section 9.1: the remainder of a point on each axis
abbrev pub remainders : Unit → ℤ → ℤ → ℤ → ℕ → Axis → ℕ
remainders u x y z D =
    on_axes (located (distance x u.o1 D) D u.n1).remainder
    (located (distance y u.o2 D) D u.n2).remainder
    (located (distance z u.o3 D) D u.n3).remainder

-- Section 9.4: the axes and weights of a placing over D, for remainders u in the order o: D − u(p),
-- u(p) − u(r), u(r) − u(s) and u(s), none of which falls below 0; so they add up to D
pub record Weighed (u : Axis → ℕ) (o : AxisRanks) (D : ℕ) (q : Placing) : Type 0 where
  pub axes : (q.p ≡ axis_number o.p) × (q.r ≡ axis_number o.r) × (q.s ≡ axis_number o.s)
  pub weight0 : q.l0 + u o.p ≡ D
  pub weight1 : q.l1 + u o.r ≡ u o.p
  pub weight2 : q.l2 + u o.s ≡ u o.r
  pub weight3 : q.l3 ≡ u o.s
  pub total : weight_sum q ≡ D

-- That holds of each placing that the placing call gives.
abbrev pub WeightsAddUp : Type 0
WeightsAddUp =
    (u : Unit) (x y z : ℤ) (D : ℕ) (q : Placing) → place_answer u x y z D ≡ Ok q
    → (let rest = remainders u x y z D in Weighed rest (rank_axes rest) D q)

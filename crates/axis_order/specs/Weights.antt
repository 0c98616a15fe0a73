-- The placing of a point: cell, axis order and the four weights. Section 9.4.
use Rattle.std.specs.Prelude.{◌+◌, ◌-◌, ℕ}
use Rattle.spline.specs.Place.{Axis, a1, a2, a3, on_axes}
use Rattle.coordinates.specs.declared.Located.{Located}
use Rattle.axis_order.specs.AxisOrder.{AxisRanks, axis_number, rank_axes}
use Rattle.axis_order.specs.declared.Placing.{Placing}

-- Section 9.4: the placing by cell, remainders and axis order, with its four weights
abbrev pub placing_by : (Axis → ℕ) → (Axis → ℕ) → ℕ → AxisRanks → Placing
placing_by k u D o = record {
  k1 = k a1;
  k2 = k a2;
  k3 = k a3;
  p = axis_number o.p;
  r = axis_number o.r;
  s = axis_number o.s;
  l0 = D - u o.p;
  l1 = u o.p - u o.r;
  l2 = u o.r - u o.s;
  l3 = u o.s;
}

-- Section 9.4: the placing of a point over D, located on each axis
abbrev pub placing_on : Located → Located → Located → ℕ → Placing
placing_on x y z D =
    let u = on_axes x.remainder y.remainder z.remainder in
    placing_by (on_axes x.cell y.cell z.cell) u D (rank_axes u)

-- k of a placing
abbrev pub placing_cell : Placing → Axis → ℕ
placing_cell q = on_axes q.k1 q.k2 q.k3

-- Section 9.4: D, which its weights add up to
abbrev pub weight_sum : Placing → ℕ
weight_sum q = q.l0 + q.l1 + q.l2 + q.l3

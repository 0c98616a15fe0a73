-- The order of the axes by their remainders. Section 9.3.
use Rattle.std.specs.Prelude.{cond, ℕ, leb}
use Rattle.spline.specs.Place.{Axis, a1, a2, a3}

abbrev pub axis_number : Axis → ℕ
axis_number a1 = 1
axis_number a2 = 2
axis_number a3 = 3

-- Section 9.3: the axes p, r, s
pub record AxisRanks : Type 0 where
  pub p : Axis
  pub r : Axis
  pub s : Axis

abbrev pub axis_ranks : Axis → Axis → Axis → AxisRanks
axis_ranks p r s = record { p = p; r = r; s = s }

-- two axes in order, a first, and axis 3 among them: behind each whose u is not smaller than its own
unfoldable pub with_third : (Axis → ℕ) → Axis → Axis → AxisRanks
with_third u a b =
    cond (leb (u a3) (u b)) (axis_ranks a b a3)
    (cond (leb (u a3) (u a)) (axis_ranks a a3 b) (axis_ranks a3 a b))

-- Section 9.3: the axis order of three remainders
unfoldable pub rank_axes : (Axis → ℕ) → AxisRanks
rank_axes u = cond (leb (u a2) (u a1)) (with_third u a1 a2) (with_third u a2 a1)

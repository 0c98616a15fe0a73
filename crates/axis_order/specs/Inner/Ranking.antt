-- Ranks of the axes, as inner functions of this crate and of `blending` have them.
use Rattle.std.specs.Prelude.{cond, ℕ, leb}
use Rattle.spline.specs.Place.{Axis, on_axes}
use Rattle.axis_order.specs.AxisOrder.{AxisRanks, axis_number, rank_axes}
use Rattle.axis_order.specs.declared.ranking.Ranking.{Ranking}

-- three axes in order, by their numbers, with their remainders
abbrev pub in_order : ℕ → ℕ → ℕ → ℕ → ℕ → ℕ → Ranking
in_order p up r ur s us = record { p = p; r = r; s = s; up = up; ur = ur; us = us }

-- axis 3 among two others, as `with_third` puts it there
unfoldable pub third_among : ℕ → ℕ → ℕ → ℕ → ℕ → Ranking
third_among a ua b ub u3 =
    cond (leb u3 ub) (in_order a ua b ub 3 u3)
    (cond (leb u3 ua) (in_order a ua 3 u3 b ub) (in_order 3 u3 a ua b ub))

-- the axes p, r, s
abbrev pub ranking : (Axis → ℕ) → AxisRanks → Ranking
ranking u o =
    in_order (axis_number o.p) (u o.p) (axis_number o.r) (u o.r) (axis_number o.s) (u o.s)

abbrev pub ranked : ℕ → ℕ → ℕ → Ranking
ranked u1 u2 u3 = ranking (on_axes u1 u2 u3) (rank_axes (on_axes u1 u2 u3))

-- the numbers of the three axes, in some order
pub data Axes : ℕ → ℕ → ℕ → Type 0 where
  o123 : Axes 1 2 3
  o132 : Axes 1 3 2
  o213 : Axes 2 1 3
  o231 : Axes 2 3 1
  o312 : Axes 3 1 2
  o321 : Axes 3 2 1

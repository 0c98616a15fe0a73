-- The first two axes are in order, so axis 3 finds its place among them.
use mathlib.Core.Path.{◌∙◌}
use native.Mathlib.Omega.{arith}
use borrow.Author.Tests.{le-leb, lt-leb}
use Rattle.spline.specs.Place.{a1, a2, on_axes}
use Rattle.axis_order.proofs.Ranks.{third-ranked}
use Rattle.axis_order.specs.AxisOrder.{rank_axes}
use Rattle.axis_order.proofs.ranking.rank.Goals as goal

pub returns-then-u2-u1 : goal.returns-then-u2-u1
unfolding rank_axes
returns-then-u2-u1 c =
    let a = c.args in
    c.with_third.ensures
    ∙ third-ranked (on_axes a.u1 a.u2 a.u3) a1 a2
    ∙ simp (le-leb a.u2 a.u1 (omega arith))

pub returns-else-u2-u1 : goal.returns-else-u2-u1
unfolding rank_axes
returns-else-u2-u1 c =
    let a = c.args in
    c.with_third-else-u2-u1.ensures
    ∙ third-ranked (on_axes a.u1 a.u2 a.u3) a2 a1
    ∙ simp (lt-leb a.u2 a.u1 (omega arith))

-- What fits is summed by the loops over the box, and nothing else is written.
use mathlib.Core.Path.{◌∙◌, sym}
use lib.ListN.{length}
use Rattle.summations.proofs.PassFits.{fits-facts}
use Rattle.summations.specs.Pass.{sums_of}
use Rattle.summations.proofs.integrate.Goals as goal

pub sum_box-requires : goal.sum_box-requires
sum_box-requires c =
    fits-facts c.args.s (length c.args.net.now) (length c.args.work.now)
    (sym c.sums_fit-fit.ensures ∙ c.if-fit.true)

pub returns-then-fit : goal.returns-then-fit
unfolding sums_of
returns-then-fit c =
    let t = sym c.sums_fit-fit.ensures ∙ c.if-fit.true in
    record { answer = simp (c.if-fit.true, t); net = simp t c.sum_box.ensures }

pub returns-else-fit : goal.returns-else-fit
unfolding sums_of
returns-else-fit c =
    let t = sym c.sums_fit-fit.ensures ∙ c.if-fit.false in
    record { answer = simp (c.if-fit.false, t); net = simp t }

-- What fits is written by the loops over the box, and nothing else is written.
use mathlib.Core.Path.{◌∙◌, sym}
use lib.ListN.{length}
use Rattle.differences.proofs.PassFits.{fits-facts}
use Rattle.differences.specs.Pass.{differences_of}
use Rattle.differences.proofs.shift_and_subtract.Goals as goal

pub difference_box-requires : goal.difference_box-requires
difference_box-requires c =
    fits-facts c.args.old c.args.new (length c.args.net.now) (length c.args.work.now)
    (sym c.differences_fit-fit.ensures ∙ c.if-fit.true)

pub returns-then-fit : goal.returns-then-fit
unfolding differences_of
returns-then-fit c =
    let t = sym c.differences_fit-fit.ensures ∙ c.if-fit.true in
    record { answer = simp (c.if-fit.true, t); work = simp t c.difference_box.ensures }

pub returns-else-fit : goal.returns-else-fit
unfolding differences_of
returns-else-fit c =
    let t = sym c.differences_fit-fit.ensures ∙ c.if-fit.false in
    record { answer = simp (c.if-fit.false, t); work = simp t }

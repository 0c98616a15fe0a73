-- `put_place` meets its contract: nothing is put for a 0, else the place and its number.
use borrow.Author.Tests.{eq-eqb, ne_eqb}
use Rattle.text.proofs.Puts.{put-none, put_then}
use Rattle.lines.specs.Lines.{place_text}
use Rattle.lines.proofs.put_place.Goals as goal

pub returns-then-number-eq0 : goal.returns-then-number-eq0
unfolding place_text
returns-then-number-eq0 c =
    let a = c.args in
    rw (eq-eqb a.number 0 c.if-number-eq0.true) (put-none a.out.now a.at)

pub returns : goal.returns
unfolding place_text
returns c =
    let n = c.args.number in
    rw (ne_eqb n 0 c.if-number-eq0.false)
    (put_then c.put_triple-after_place.ensures c.put_item.ensures)

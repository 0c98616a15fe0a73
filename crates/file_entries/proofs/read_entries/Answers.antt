-- An entry more is written.
use mathlib.Core.List.{List}
use mathlib.Core.Path.{◌∙◌, ap, sym}
use native.Mathlib.Omega.{arith}
use lib.ListN.{set}
use Rattle.sums.proofs.Fill.{fill_none, fill-store}
use Rattle.file_entries.proofs.read_entries.Goals as goal

pub loop-i-init : goal.loop-i-init
loop-i-init g c number_of read = sym (fill_none number_of _)

pub loop-i-preserved : goal.loop-i-preserved
loop-i-preserved g c number_of read =
    let i = c.loop-i.i in
    let entry = c.entry_at.result in
    ap (λ (xs : List g.row.T.Denot). set xs i entry) (c.loop-i.invariant number_of read)
    ∙ fill-store number_of i _ entry (omega arith) (read i entry (omega arith) c.entry_at.ensures)

-- Where no number stands before a place, its own is what 32 bits hold of the entry.
use mathlib.Core.Path.{◌≡◌}
use Rattle.sums.specs.Fill.{filled}
use Rattle.summations.specs.Inner.Rows.{RowSums, none}
use Rattle.summations.proofs.row.sum_edge.Given as goal

abbrev pub invariant-loop-i : goal.invariant-loop-i
invariant-loop-i l =
    (r : RowSums none l.a l.e l.work l.initial.net) → l.net ≡ filled r.number l.i l.initial.net

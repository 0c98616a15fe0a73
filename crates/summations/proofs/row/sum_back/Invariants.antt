-- Each turn adds the entry to a number that was written before.
use mathlib.Core.Path.{◌≡◌}
use Rattle.sums.specs.Fill.{filled}
use Rattle.summations.specs.Inner.Rows.{RowSums, places_back}
use Rattle.summations.proofs.row.sum_back.Given as goal

abbrev pub invariant-loop-i : goal.invariant-loop-i
invariant-loop-i l =
    (r : RowSums (places_back l.back) l.a l.e l.work l.initial.net)
    → l.net ≡ filled r.number l.i l.initial.net

-- The number before stays in t; each turn adds the entry to it.
use mathlib.Core.Path.{◌≡◌}
use Prim.Native.Nat.{◌-◌}
use Rattle.sums.specs.Fill.{filled}
use Rattle.summations.specs.Inner.Rows.{RowSums, places_back}
use Rattle.summations.proofs.row.sum_along.Given as goal

abbrev pub invariant-loop-i : goal.invariant-loop-i
invariant-loop-i l =
    (r : RowSums (places_back 1) l.a l.e l.work l.initial.net)
    → (l.net ≡ filled r.number l.i l.initial.net) × (l.t ≡ r.number (l.i - 1))

-- After i turns the first i places hold the first i entries, and the rest is as found.
use mathlib.Core.Path.{◌≡◌}
use Prim.Native.Nat.{◌<◌, ℕ}
use Rattle.sums.specs.Fill.{filled}
use Rattle.file_entries.proofs.read_entries.Given as goal

abbrev pub invariant-loop-i : goal.invariant-loop-i
invariant-loop-i g l =
    (number_of : ℕ → g.row.T.Denot)
    → ((i : ℕ) (r : g.row.T.Denot) → i < l.n → goal.F-post g l.entry_at i r → r ≡ number_of i)
    → l.entries ≡ filled number_of l.i l.initial.entries

-- After i turns the table holds the powers 0 to i.
use mathlib.Core.Path.{◌≡◌}
use Prim.Native.Nat.{◌+◌, ◌<◌, ◌^◌, ℕ}
use lib.ListN.{get_or, length}
use Rattle.point.proofs.bernstein.powers.Given as goal

abbrev pub invariant-loop-i : goal.invariant-loop-i
invariant-loop-i l = (length l.p ≡ 10) × ((j : ℕ) → j < l.i + 1 → get_or l.p j 0 ≡ l.base ^ j)

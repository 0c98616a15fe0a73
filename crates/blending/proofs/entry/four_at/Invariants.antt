-- After i turns the first i shares are listed.
use mathlib.Core.List.{List}
use mathlib.Core.Path.{◌≡◌}
use Prim.Native.Nat.{◌+◌, ◌<◌, ℕ}
use lib.ListN.{length}
use Rattle.sums.specs.Fill.{number_at}
use Rattle.blending.proofs.entry.four_at.Given as goal

-- the share of an entry at a local place
abbrev pub share_in : List ℕ → List ℕ → ℕ → ℕ → ℕ
share_in net offsets share t = number_at net (share + number_at offsets t)

abbrev pub invariant-loop-i : goal.invariant-loop-i
invariant-loop-i l = (length l.four ≡ 4)
    × ((j : ℕ) → j < l.i → number_at l.four j ≡ share_in l.net l.offsets l.share (l.t + j))

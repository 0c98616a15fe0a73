-- Four shares of 0 add nothing; else after i turns the first i of the four have been added.
use mathlib.Core.List.{List}
use Prim.Native.Nat.{◌+◌, ◌-◌, ℕ}
use lib.IntN.{ℤ}
use Rattle.sums.specs.Fill.{number_at}
use Rattle.blending.proofs.Steps.{Kept}
use Rattle.blending.specs.Inner.Sums.{Sums, entry_sums, sums_in}
use Rattle.blending.specs.Inner.Window.{AddedIn}
use Rattle.blending.proofs.entry.add_four.Given as goal

-- what is added at a place, of the four that begin at t
abbrev pub share-at : ℕ → List ℕ → ℤ → ℕ → ℕ → Sums
share-at t four correction uncertainty i = entry_sums (number_at four (i - t)) correction uncertainty

abbrev pub invariant-loop-i : goal.invariant-loop-i
invariant-loop-i l = Kept l.initial.shares l.initial.shifts l.initial.spreads l.shares l.shifts l.spreads
    × AddedIn l.t (l.t + l.i) (share-at l.t l.four l.correction l.uncertainty)
    (sums_in l.initial.shares l.initial.shifts l.initial.spreads) (sums_in l.shares l.shifts l.spreads)

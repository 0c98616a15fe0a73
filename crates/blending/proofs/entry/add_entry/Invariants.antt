-- After g turns the first 4×g places have their shares added, the others not yet.
use mathlib.Core.List.{List}
use Prim.Native.Nat.{◌*◌, ◌+◌, ℕ}
use lib.IntN.{ℤ}
use Rattle.sums.specs.Fill.{number_at}
use Rattle.blending.proofs.Steps.{Kept}
use Rattle.blending.specs.Inner.Sums.{Sums, entry_sums, sums_in}
use Rattle.blending.specs.Inner.Window.{AddedIn}
use Rattle.blending.proofs.entry.add_entry.Given as goal

-- the share at a local place, and what it adds
abbrev pub share-at : List ℕ → List ℕ → ℕ → ℕ → ℕ
share-at net offsets share t = number_at net (share + number_at offsets t)

abbrev pub adds-at : List ℕ → List ℕ → ℕ → ℤ → ℕ → ℕ → Sums
adds-at net offsets share correction uncertainty t =
    entry_sums (share-at net offsets share t) correction uncertainty

abbrev pub invariant-loop-g : goal.invariant-loop-g
invariant-loop-g l = Kept l.initial.shares l.initial.shifts l.initial.spreads l.shares l.shifts l.spreads
    × AddedIn 0 (4 * l.g) (adds-at l.net l.offsets l.share l.correction l.uncertainty)
    (sums_in l.initial.shares l.initial.shifts l.initial.spreads) (sums_in l.shares l.shifts l.spreads)

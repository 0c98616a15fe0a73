-- After t turns the first t offsets are listed, and the local place is the t-th.
use mathlib.Core.Path.{◌≡◌}
use Prim.Native.Nat.{◌<◌, ◌≤◌, ℕ}
use lib.ListN.{length}
use Rattle.sums.specs.Fill.{number_at}
use Rattle.tetrahedron.specs.LocalPlaces.{local_at}
use Rattle.blending.specs.Inner.Frame.{offset_of}
use Rattle.blending.proofs.adding.offsets_of.Given as goal

abbrev pub invariant-loop-t : goal.invariant-loop-t
invariant-loop-t at = (length at.offsets ≡ 220)
    × (at.l ≡ local_at at.t)
    × ((i : ℕ) → i < at.t → number_at at.offsets i ≡ offset_of at.f (local_at i))
    × ((i : ℕ) → at.t ≤ i → i < 220 → number_at at.offsets i ≡ 0)

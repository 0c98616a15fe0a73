-- After t turns the sum is that of the first t local places, and the local place is the t-th.
use mathlib.Core.Path.{◌≡◌}
use Rattle.sums.specs.Fill.{number_at, signed_at}
use Rattle.parts.specs.Parts.{first_parts}
use Rattle.tetrahedron.specs.LocalPlaces.{local_at}
use Rattle.point.proofs.bernstein.bernstein_sums.Given as goal

abbrev pub invariant-loop-t : goal.invariant-loop-t
invariant-loop-t at = (at.l ≡ local_at at.t)
    × (at.sum ≡ first_parts at.fn.m at.fn.q (signed_at at.shifts) (number_at at.spreads) at.t)

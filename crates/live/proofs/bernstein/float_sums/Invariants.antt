-- After t turns the floats are the sums of the first t terms, and the local place is the t-th.
use mathlib.Core.Path.{◌≡◌}
use Rattle.sums.specs.Fill.{number_at, signed_at}
use Rattle.live.proofs.Turns.{Numerator, Uncertainty}
use Rattle.tetrahedron.specs.LocalPlaces.{local_at}
use Rattle.live.proofs.bernstein.float_sums.Given as goal

abbrev pub invariant-loop-t : goal.invariant-loop-t
invariant-loop-t at = (at.l ≡ local_at at.t)
    × Numerator at.fn.m at.fn.q (signed_at at.shifts) at.numerator at.t
    × Uncertainty at.fn.m at.fn.q (number_at at.spreads) at.uncertainty at.t

-- After t turns the first t places are written.
use mathlib.Core.Path.{◌≡◌}
use Rattle.sums.specs.Fill.{filled, number_at, signed_at}
use Rattle.blending.proofs.hand_over.Given as goal

abbrev pub invariant-loop-t : goal.invariant-loop-t
invariant-loop-t l =
    (l.shifts ≡ filled (signed_at l.corrections) l.t l.initial.shifts)
    × (l.spreads ≡ filled (number_at l.uncertainties) l.t l.initial.spreads)

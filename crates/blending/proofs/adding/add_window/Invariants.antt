-- Before a position every entry has been added and none is a gap.
use Prim.Native.Nat.{◌*◌, ◌-◌}
use Rattle.sums.specs.Fill.{number_at, signed_at}
use Rattle.blending.proofs.SoFar.{passed}
use Rattle.blending.proofs.Steps.{Kept}
use Rattle.blending.proofs.Turns.{Turn}
use Rattle.blending.specs.Inner.Sums.{sums_in}
use Rattle.blending.proofs.adding.add_window.Given as goal

abbrev pub invariant-loop-at : goal.invariant-loop-at
invariant-loop-at l = Kept l.initial.shares l.initial.shifts l.initial.spreads l.shares l.shifts l.spreads
    × Turn (number_at l.net) (signed_at l.corrections) (number_at l.uncertainties) l.f (number_at l.offsets) l.at
    (sums_in l.shares l.shifts l.spreads)

abbrev pub decreases-loop-at : goal.decreases-loop-at
decreases-loop-at l = l.e1 * l.e2 * l.e3 - passed l.e1 l.e2 l.at

-- The counts are those of the bytes so far.
use mathlib.Core.Path.{◌≡◌}
use lib.ListN.{take}
use Rattle.spline.specs.Multiplicities.{order_multiplicities}
use Rattle.shape.specs.Shape.{counted}
use Rattle.orders.proofs.counts_of.Given as goal

abbrev pub invariant-loop-d : goal.invariant-loop-d
invariant-loop-d l = counted l.c ≡ order_multiplicities (take l.d-index l.order)

-- After the bytes before the index, those from it on are left to take up, and lead from here to where all do.
use mathlib.Core.Path.{◌≡◌}
use lib.ListN.{drop, take}
use Rattle.spline.specs.Multiplicities.{order_multiplicities}
use Rattle.shape.specs.Shape.{counted}
use Rattle.builds.specs.Repeat.{repeats, slices}
use Rattle.net.proofs.repeat.run.Given as goal

abbrev pub invariant-loop-d : goal.invariant-loop-d
invariant-loop-d l = (counted l.c ≡ order_multiplicities (take l.d-index l.order))
    × (repeats (drop l.d-index l.order) (counted l.c) (slices l.net l.work)
    ≡ repeats l.order (counted l.initial.c) (slices l.initial.net l.initial.work))

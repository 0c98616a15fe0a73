-- The differences are those from the shape of the multiplicities to that of one more; their sums follow.
use mathlib.Core.Bool.{cond}
use mathlib.Core.List.{List}
use mathlib.Core.Path.{◌∙◌, ◌≡◌, sym}
use Prim.Native.Nat.{ℕ}
use native.Mathlib.Omega.{arith}
use lib.IntN.{ℤ}
use Rattle.spline.specs.Build.{direction}
use Rattle.spline.specs.Inner.Limits.{Limits}
use Rattle.spline.specs.Multiplicities.{Multiplicities, allowed, more}
use Rattle.spline.specs.Place.{Direction}
use Rattle.allowed.proofs.Limits.{limits-allowed}
use Rattle.shape.specs.Shape.{counted, shape_of}
use Rattle.shape.specs.declared.Shape.{Shape}
use Rattle.orders.proofs.Orders.{limits-le}
use Rattle.differences.specs.Pass.{differences_of}
use Rattle.summations.specs.Pass.{sums_of}
use Rattle.builds.proofs.TakenUp.{in-turn}
use Rattle.builds.specs.Repeat.{net_repeated, work_between}
use Rattle.net.proofs.repeat.take_up.Goals as goal

-- what the halves are handed, and what they leave
halves : (d : Direction) (v w : Multiplicities) (old new : Shape) (net after : List ℕ) (work between : List ℤ)
    → w ≡ more d v → old ≡ shape_of v → new ≡ shape_of w
    → between ≡ differences_of d old new net work → after ≡ sums_of d new net between
    → (between ≡ work_between d v net work) × (after ≡ net_repeated d v net work)
halves d v w old new net after work between ew eo en first second =
    let taken : between ≡ work_between d v net work = rw (← ew, ← eo, ← en) first in
    (taken, rw (← taken, ← ew, ← en) second ∙ sym (in-turn d v net work))

-- multiplicities that can grow are within the limits
within : (d : Direction) (v : Multiplicities) → Limits v 11 → cond (allowed v) (more d v) v ≡ more d v
within d v l = simp (limits-allowed v (limits-le l (omega arith)))

pub returns : goal.returns
returns c =
    let s = c.args in
    let limits = c.requires in
    let grown = c.one_more-next.ensures ∙ within (direction s.d) (counted s.c) limits in
    let first = c.shift_and_subtract in
    let second = c.integrate in
    let left =
    halves (direction s.d) (counted s.c) (counted c.one_more-next.result)
    c.shape_of-old.result c.shape_of-new.result
    s.net.now second.new.net s.work.now first.new.work
    grown c.shape_of-old.ensures.value c.shape_of-new.ensures.value
    first.ensures.work second.ensures.net in
    record { counts = grown; work = left.0; net = left.1 }

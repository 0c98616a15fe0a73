-- Up to the index that the three loops have reached the lists agree; at the first that differs all are left.
use mathlib.Core.Path.{◌≡◌}
use Prim.Native.Nat.{◌*◌, ◌+◌, ◌-◌, ◌≤◌}
use Rattle.sums.specs.Search.{first, nowhere}
use Rattle.comparison.specs.Compare.{differs}
use Rattle.comparison.proofs.first_differing.Given as goal
use Rattle.checks.specs.Checks.{no_refusal}

abbrev pub invariant-loop-x : goal.invariant-loop-x
invariant-loop-x l =
    (l.seen ≡ no_refusal) × (l.x ≤ l.w1) × (l.i ≡ l.x + l.w1 * (l.y + l.w2 * l.z))
    × (first l.i (differs l.net l.defined) ≡ nowhere)

abbrev pub decreases-loop-x : goal.decreases-loop-x
decreases-loop-x l = l.w1 - l.x

abbrev pub invariant-loop-y : goal.invariant-loop-y
invariant-loop-y l =
    (l.seen ≡ no_refusal) × (l.y ≤ l.w2) × (l.i ≡ l.w1 * (l.y + l.w2 * l.z))
    × (first l.i (differs l.net l.defined) ≡ nowhere)

abbrev pub decreases-loop-y : goal.decreases-loop-y
decreases-loop-y l = l.w2 - l.y

abbrev pub invariant-places : goal.invariant-places
invariant-places l =
    (l.seen ≡ no_refusal) × (l.z ≤ l.w3) × (l.i ≡ l.w1 * (l.w2 * l.z))
    × (first l.i (differs l.net l.defined) ≡ nowhere)

abbrev pub decreases-places : goal.decreases-places
decreases-places l = l.w3 - l.z

-- The local places of a placing: within the degree, and their indices in the net.
use mathlib.Core.Bool.{Bool, cond, false, true}
use mathlib.Core.Path.{◌≡◌}
use Prim.Native.Nat.{◌*◌, ◌+◌, ◌-◌, ◌≤◌, ℕ}
use native.Mathlib.Omega.{arith}
use lib.Dec.{eqb}
use Rattle.spline.specs.Place.{Axis, a1, a2, a3}
use Rattle.axis_order.specs.Inner.Ranking.{Axes, o123, o132, o213, o231, o312, o321}
use Rattle.axis_order.specs.AxisOrder.{axis_number}
use Rattle.axis_order.specs.declared.Placing.{Placing}
use Rattle.blended.specs.Blending.{local_place}
use Rattle.frame.specs.Frames.{step_on}

cond-le : (t : Bool) (x y m : ℕ) → x ≤ m → y ≤ m → cond t x y ≤ m
cond-le true x y m h k = h
cond-le false x y m h k = k

-- a local place is within the degree on every axis
pub local-le : (q : Placing) (b1 b2 b3 m : ℕ) → b1 + b2 + b3 ≤ m → (b : Axis) → local_place q b1 b2 b3 b ≤ m
unfolding local_place
local-le q b1 b2 b3 m h b =
    cond-le (eqb (axis_number b) q.p) _ _ m h
    (cond-le (eqb (axis_number b) q.r) _ _ m (omega arith) (omega arith))

-- each axis has its own step, whatever their order
axes-index : {p r s : ℕ} (w1 w2 x y z : ℕ) → Axes p r s
    → cond (eqb 1 p) x (cond (eqb 1 r) y z)
    + w1 * (cond (eqb 2 p) x (cond (eqb 2 r) y z) + w2 * cond (eqb 3 p) x (cond (eqb 3 r) y z))
    ≡ step_on w1 w2 p * x + step_on w1 w2 r * y + step_on w1 w2 s * z
unfolding step_on
axes-index w1 w2 x y z o123 = omega arith
axes-index w1 w2 x y z o132 = omega arith
axes-index w1 w2 x y z o213 = omega arith
axes-index w1 w2 x y z o231 = omega arith
axes-index w1 w2 x y z o312 = omega arith
axes-index w1 w2 x y z o321 = omega arith

-- the index of a local place in the net's box, by steps along p, r, s
pub local-index : (q : Placing) (w1 w2 b1 b2 b3 : ℕ) → Axes q.p q.r q.s
    → local_place q b1 b2 b3 a1 + w1 * (local_place q b1 b2 b3 a2 + w2 * local_place q b1 b2 b3 a3)
    ≡ step_on w1 w2 q.p * (b1 + b2 + b3) + step_on w1 w2 q.r * (b2 + b3) + step_on w1 w2 q.s * b3
unfolding local_place
local-index q w1 w2 b1 b2 b3 h = axes-index w1 w2 (b1 + b2 + b3) (b2 + b3) b3 h

-- for 0 ≤ z ≤ y ≤ x the differences add up to x, y and z
pub sums-of : (x y z : ℕ) → z ≤ y → y ≤ x → (x - y + (y - z) + z ≡ x) × (y - z + z ≡ y)
sums-of x y z h k = (omega arith, omega arith)

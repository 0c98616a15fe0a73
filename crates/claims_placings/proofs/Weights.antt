-- The axis order by its six cases, and the weights of a point that was placed: its remainders fall, from one
-- that is at most D.
use mathlib.Core.Logic.{◌⊎◌, inl, inr}
use mathlib.Core.Path.{◌≡◌, refl, subst, sym}
use Prim.Native.Nat.{◌≤◌, ℕ}
use native.Mathlib.Omega.{arith}
use lib.IntN.{ℤ}
use Rattle.spline.specs.Place.{Axis, a1, a2, a3}
use Rattle.unit.specs.declared.Unit.{Unit}
use Rattle.coordinates.proofs.Faces.{remainder-most}
use Rattle.coordinates.specs.Coordinates.{distance}
use Rattle.axis_order.proofs.Ranks.{Before, falling, ordered, rank-cases}
use Rattle.axis_order.specs.AxisOrder.{rank_axes}
use Rattle.placing.proofs.Placed.{point-accepted}
use Rattle.placing.specs.Placing.{placing}
use Rattle.possible.proofs.PlacedPossible.{placed}
use Rattle.claims_placings.specs.Weights.{AxisOrder, StandsBefore, Weighed, WeightsAddUp, remainders}

-- ---- the axis order

-- every axis is one of the three
one_of : (u : Axis → ℕ) (b : Axis)
    → (let o = rank_axes u in (b ≡ o.p) ⊎ ((b ≡ o.r) ⊎ (b ≡ o.s)))
one_of u a1 =
    rank-cases u (λ o. (a1 ≡ o.p) ⊎ ((a1 ≡ o.r) ⊎ (a1 ≡ o.s))) (λ a b. inl refl) (λ a b. inl refl)
    (λ a b. inr (inl refl)) (λ a b. inr (inl refl)) (λ a b. inr (inr refl)) (λ a b. inr (inr refl))
one_of u a2 =
    rank-cases u (λ o. (a2 ≡ o.p) ⊎ ((a2 ≡ o.r) ⊎ (a2 ≡ o.s))) (λ a b. inr (inl refl))
    (λ a b. inr (inr refl)) (λ a b. inr (inr refl)) (λ a b. inl refl) (λ a b. inl refl)
    (λ a b. inr (inl refl))
one_of u a3 =
    rank-cases u (λ o. (a3 ≡ o.p) ⊎ ((a3 ≡ o.r) ⊎ (a3 ≡ o.s))) (λ a b. inr (inr refl))
    (λ a b. inr (inl refl)) (λ a b. inl refl) (λ a b. inr (inr refl)) (λ a b. inr (inl refl))
    (λ a b. inl refl)

stands : (u : Axis → ℕ) (a b : Axis) → Before u a b → StandsBefore u a b
stands u a b (inl l) = inl (omega (arith, l))
stands u a b (inr e) = inr (omega (arith, e.0), omega (arith, e.1))

pub axis-order : AxisOrder
axis-order u =
    let o = rank_axes u in
    let e = ordered u in
    record {
      all_three = one_of u;
      first = stands u o.p o.r e.first;
      second = stands u o.r o.s e.second;
    }

-- ---- the weights

weighed : (u : Unit) (x y z : ℤ) (D : ℕ) → 1 ≤ D
    → (let rest = remainders u x y z D in Weighed rest (rank_axes rest) D (placing u x y z D))
unfolding placing
weighed u x y z D some =
    let f =
    falling _ _ _ D (remainder-most (distance x u.o1 D) D u.n1 some)
    (remainder-most (distance y u.o2 D) D u.n2 some)
    (remainder-most (distance z u.o3 D) D u.n3 some) in
    record {
      axes = (refl, refl, refl);
      weight0 = omega (arith, f.most);
      weight1 = omega (arith, f.first);
      weight2 = omega (arith, f.second);
      weight3 = omega arith;
      total = omega (arith, f.most, f.first, f.second);
    }

pub weights-add-up : WeightsAddUp
weights-add-up u x y z D q h =
    let p = placed u x y z D h in
    let rest = remainders u x y z D in
    subst (Weighed rest (rank_axes rest) D) (sym p.is)
    (weighed u x y z D (point-accepted u x y z D p.position-passed).divisor.some)

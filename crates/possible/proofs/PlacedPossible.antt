-- A point's placing is possible, and a placing that the placing call gives is the point's.
use mathlib.Core.Bool.{true}
use mathlib.Core.Logic.{inl, inr}
use mathlib.Core.Path.{◌∙◌, ◌≡◌, ap, refl, sym}
use Prim.Native.Nat.{◌-◌, ◌<◌, ◌≤◌, ℕ}
use native.Mathlib.Nat.{mod-lt}
use native.Mathlib.Omega.{arith}
use lib.IntN.{ℤ}
use Rattle.spline.specs.Place.{Axis, a1, a2, a3, on_axes}
use Rattle.checks.proofs.Checks.{made-by, then-passed}
use Rattle.unit.specs.declared.Unit.{Unit}
use Rattle.limits.specs.Limits.{unit_checks}
use Rattle.coordinates.proofs.Faces.{by-face}
use Rattle.coordinates.specs.Coordinates.{distance, located}
use Rattle.axis_order.proofs.Ranks.{Before, ordered, rank-cases}
use Rattle.axis_order.specs.AxisOrder.{axis_number, rank_axes}
use Rattle.axis_order.specs.Weights.{placing_by, weight_sum}
use Rattle.axis_order.specs.declared.Placing.{Placing}
use Rattle.placing.proofs.Placed.{PointAccepted, point-accepted}
use Rattle.placing.proofs.Weights.{placing-axes, weights-add-up}
use Rattle.placing.specs.Place.{place_answer, position_checks}
use Rattle.placing.specs.Placing.{block_cells, placing}
use Rattle.placing_fields.specs.Fields.{remainder_on}
use Rattle.possible.proofs.FieldTests.{Possible, possible-is}
use Rattle.possible.specs.Possible.{placing_checks, possible}
use Rattle.checks.specs.Checks.{and_then, no_refusal}
use Rattle.std.specs.Prelude.{Ok}

-- the remainders, from the weights of a placing
remainders-are : (k u : Axis → ℕ) (D : ℕ)
    → (let q = placing_by k u D (rank_axes u) in
    (remainder_on q 1 ≡ u a1) × (remainder_on q 2 ≡ u a2) × (remainder_on q 3 ≡ u a3))
unfolding remainder_on
remainders-are k u D =
    rank-cases u
    (λ o. (let q = placing_by k u D o in
    (remainder_on q 1 ≡ u a1) × (remainder_on q 2 ≡ u a2) × (remainder_on q 3 ≡ u a3)))
    (λ a b. (omega arith, omega arith, omega arith))
    (λ a b. (omega arith, omega arith, omega arith))
    (λ a b. (omega arith, omega arith, omega arith))
    (λ a b. (omega arith, omega arith, omega arith))
    (λ a b. (omega arith, omega arith, omega arith))
    (λ a b. (omega arith, omega arith, omega arith))

-- a remainder of D is that of the far face, in the last cell
last-cell : (x D n : ℕ) → 1 ≤ D → (located x D n).remainder ≡ D → (located x D n).cell ≡ n - 1
last-cell x D n h =
    by-face x D n (λ l. l.remainder ≡ D → l.cell ≡ n - 1) (λ e k. refl)
    (λ e k. absurd (omega (arith, mod-lt x h)))

-- where the weight between two axes is 0, the lower one is first
tie-first : (u : Axis → ℕ) (a b : Axis) → Before u a b → u a - u b ≡ 0 → axis_number a < axis_number b
tie-first u a b (inl l) e = absurd (omega arith)
tie-first u a b (inr h) e = h.1

module _ (u : Unit) (x y z : ℤ) (D : ℕ) where
  -- a point past its checks has a possible placing
  pub placed-possible : PointAccepted u x y z D → Possible u (placing u x y z D)
  unfolding placing
  placed-possible p =
      let some = p.divisor.some in
      let adds = weights-add-up u x y z D some in
      let a = distance x u.o1 D in
      let b = distance y u.o2 D in
      let c = distance z u.o3 D in
      let r = on_axes (located a D u.n1).remainder (located b D u.n2).remainder
      (located c D u.n3).remainder in
      let t = rank_axes r in
      let o = ordered r in
      let are = remainders-are (block_cells u a b c D) r D in
      record {
        axes = placing-axes u x y z D;
        divisor = rw adds p.divisor;
        point_inside = p.point_inside;
        first-tie = tie-first r t.p t.r o.first;
        second-tie = tie-first r t.r t.s o.second;
        face1 = λ e. last-cell a D u.n1 some (sym are.0 ∙ e ∙ adds);
        face2 = λ e. last-cell b D u.n2 some (sym are.1 ∙ e ∙ adds);
        face3 = λ e. last-cell c D u.n3 some (sym are.2 ∙ e ∙ adds);
      }

  -- ---- a point that is placed

  pub record Placed (q : Placing) : Type 0 where
    pub unit-passed : unit_checks u ≡ no_refusal
    pub position-passed : position_checks u x y z D ≡ no_refusal
    pub placing-passed : placing_checks u q ≡ no_refusal
    pub is : q ≡ placing u x y z D
    pub divisor-is : weight_sum q ≡ D

  -- it has passed all checks before 4 of a call that is handed the placing
  pub placed : {q : Placing} → place_answer u x y z D ≡ Ok q → Placed q
  unfolding place_answer placing_checks
  placed {q} h =
      let p = made-by (and_then (unit_checks u) (position_checks u x y z D)) (placing u x y z D) h in
      let t = then-passed (unit_checks u) (position_checks u x y z D) p.0 in
      let a = point-accepted u x y z D t.1 in
      let given : possible u q ≡ true = rw p.1 (possible-is u _ (placed-possible a)) in
      record {
        unit-passed = t.0;
        position-passed = t.1;
        placing-passed = rw (t.0, given) refl;
        is = p.1;
        divisor-is = ap weight_sum p.1 ∙ weights-add-up u x y z D a.divisor.some;
      }

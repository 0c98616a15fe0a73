-- A placing that is possible, field by field, and a unit and a placing that passed their checks.
use mathlib.Core.Bool.{Bool, ◌&&◌, ◌||◌, and-eq-true_iff, cond, false, not, true}
use mathlib.Core.Logic.{◌↔◌}
use mathlib.Core.Path.{◌≡◌, refl}
use Prim.Native.Nat.{◌+◌, ◌-◌, ◌<◌, ◌≤◌, suc, zero, ℕ}
use native.Mathlib.Omega.{arith}
use borrow.Author.Tests.{eq-eqb, eqb-false, eqb-true, leb-true, lt-ltb, ltb-true, not-false, not-true}
use lib.Dec.{eqb, leb}
use Rattle.spline.specs.Multiplicities.{Multiplicities}
use Rattle.checks.proofs.Checks.{if-passed, passes-passed, then-passed}
use Rattle.unit.specs.Unit.{net_of, sizes}
use Rattle.unit.specs.declared.Unit.{Unit}
use Rattle.limits.proofs.Accepted.{Equipped, Lent, equipped, lent_by}
use Rattle.limits.specs.Limits.{unit_checks}
use Rattle.divisor_checks.proofs.Accepted.{DivisorAccepted, divisor-accepted, divisor-passes}
use Rattle.divisor_checks.specs.Divisor.{divisor_checks}
use Rattle.cell_checks.specs.Inside.{inside}
use Rattle.axis_order.specs.Inner.Ranking.{Axes, o123, o132, o213, o231, o312, o321}
use Rattle.axis_order.specs.Weights.{placing_cell, weight_sum}
use Rattle.axis_order.specs.declared.Placing.{Placing}
use Rattle.three_axes.specs.Axes.{are_axes, is_axis}
use Rattle.placing_fields.specs.Fields.{face_in_last, faces_in_last, remainder_on, tie_in_order, ties_in_order}
use Rattle.possible.specs.Possible.{placed_checks, placing_checks, possible}
use Rattle.checks.specs.Checks.{no_refusal, passes}
use Rattle.checks.specs.declared.Refusal.TheVariants.{ImpossiblePlacing}

-- ---- tests

-- a test that is asked for where two numbers are equal
where-equal : (a b : ℕ) (t : Bool) → ((not (eqb a b) || t) ≡ true) ↔ (a ≡ b → t ≡ true)
where-equal a b t = go (eqb a b) refl
  where
    go : (e : Bool) → eqb a b ≡ e → ((not e || t) ≡ true) ↔ (a ≡ b → t ≡ true)
    go true h = (λ k e. k, λ k. k (eqb-true a b h))
    go false h = (λ k e. absurd (eqb-false a b h e), λ k. refl)

-- ---- the three axes

axis-bounds : (a : ℕ) → is_axis a ≡ true → (1 ≤ a) × (a ≤ 3)
axis-bounds a h =
    let t = (and-eq-true_iff (leb 1 a) (leb a 3)).0 h in (leb-true 1 a t.0, leb-true a 3 t.1)

-- what holds of each axis
each-axis : (P : ℕ → Type 0) → P 1 → P 2 → P 3 → (a : ℕ) → 1 ≤ a → a ≤ 3 → P a
each-axis P p1 p2 p3 zero h k = absurd (omega arith)
each-axis P p1 p2 p3 (suc zero) h k = p1
each-axis P p1 p2 p3 (suc (suc zero)) h k = p2
each-axis P p1 p2 p3 (suc (suc (suc zero))) h k = p3
each-axis P p1 p2 p3 (suc (suc (suc (suc a)))) h k = absurd (omega arith)

-- three numbers are the three axes in some order if no two are equal
abbrev Differ : ℕ → ℕ → ℕ → Type 0
Differ s p r = (p ≡ r → ⊥) → (p ≡ s → ⊥) → (r ≡ s → ⊥) → Axes p r s

-- three numbers from 1 to 3 are
axes-of : (p r s : ℕ) → is_axis p ≡ true → is_axis r ≡ true → is_axis s ≡ true → Differ s p r
axes-of p r s hp hr hs =
    each-axis (λ p. Differ s p r)
    (second 1 (λ a. absurd (a refl))
    (λ a b c. third 3 (Axes 1 2) o123 (λ l h. omega arith))
    (λ a b c. third 2 (Axes 1 3) o132 (λ l h. omega arith)))
    (second 2 (λ a b c. third 3 (Axes 2 1) o213 (λ l h. omega arith))
    (λ a. absurd (a refl))
    (λ a b c. third 1 (Axes 2 3) o231 (λ l h. omega arith)))
    (second 3 (λ a b c. third 2 (Axes 3 1) o312 (λ l h. omega arith))
    (λ a b c. third 1 (Axes 3 2) o321 (λ l h. omega arith))
    (λ a. absurd (a refl)))
    p (axis-bounds p hp).0 (axis-bounds p hp).1
  where
    second : (p : ℕ) → Differ s p 1 → Differ s p 2 → Differ s p 3 → Differ s p r
    second p r1 r2 r3 = each-axis (Differ s p) r1 r2 r3 r (axis-bounds r hr).0 (axis-bounds r hr).1

    third : (a : ℕ) (P : ℕ → Type 0) → P a → (1 ≤ s → s ≤ 3 → s ≡ a) → P s
    third a P h e = rw (e (axis-bounds s hs).0 (axis-bounds s hs).1) h

-- the test of the axes
axes-tested : (p r s : ℕ) → (are_axes p r s ≡ true) ↔ Axes p r s
unfolding are_axes
axes-tested p r s = (
  λ h.
      let e = (and-eq-true_iff _ (not (eqb r s))).0 h in
      let d = (and-eq-true_iff _ (not (eqb p s))).0 e.0 in
      let c = (and-eq-true_iff _ (not (eqb p r))).0 d.0 in
      let b = (and-eq-true_iff _ (is_axis s)).0 c.0 in
      let a = (and-eq-true_iff (is_axis p) (is_axis r)).0 b.0 in
      axes-of p r s a.0 a.1 b.1
      (eqb-false p r (not-true _ c.1)) (eqb-false p s (not-true _ d.1))
      (eqb-false r s (not-true _ e.1)),
  λ a. passed a,
)
  where
    passed : {p r s : ℕ} → Axes p r s → are_axes p r s ≡ true
    passed o123 = refl
    passed o132 = refl
    passed o213 = refl
    passed o231 = refl
    passed o312 = refl
    passed o321 = refl

-- ---- the other fields

divisor-tested : (v : Multiplicities) (D : ℕ) → (passes (divisor_checks v D) ≡ true) ↔ DivisorAccepted v D
divisor-tested v D =
    (λ h. divisor-accepted v D (passes-passed _ h), λ a. rw (divisor-passes v D a) refl)

-- the lower axis first where the weight is 0
tie-tested : (weight a b : ℕ) → (tie_in_order weight a b ≡ true) ↔ (weight ≡ 0 → a < b)
tie-tested weight a b =
    let t = where-equal weight 0 _ in
    (λ h e. ltb-true a b (t.0 h e), λ h. t.1 (λ e. lt-ltb a b (h e)))

-- a remainder of D in the last cell
face-tested : (remainder D n k : ℕ) → (face_in_last remainder D n k ≡ true) ↔ (remainder ≡ D → k ≡ n - 1)
face-tested remainder D n k =
    let t = where-equal remainder D _ in
    (λ h e. eqb-true _ _ (t.0 h e), λ h. t.1 (λ e. eq-eqb _ _ (h e)))

-- ---- all fields

pub record Possible (u : Unit) (q : Placing) : Type 0 where
  pub axes : Axes q.p q.r q.s
  pub divisor : DivisorAccepted (net_of u) (weight_sum q)
  pub point_inside : inside (net_of u) (sizes u) (placing_cell q) ≡ true
  pub first-tie : q.l1 ≡ 0 → q.p < q.r
  pub second-tie : q.l2 ≡ 0 → q.r < q.s
  pub face1 : remainder_on q 1 ≡ weight_sum q → q.k1 ≡ u.n1 - 1
  pub face2 : remainder_on q 2 ≡ weight_sum q → q.k2 ≡ u.n2 - 1
  pub face3 : remainder_on q 3 ≡ weight_sum q → q.k3 ≡ u.n3 - 1

module _ (u : Unit) (q : Placing) where
  abbrev D : ℕ
  D = weight_sum q

  ties-tested : (ties_in_order q ≡ true) ↔ ((q.l1 ≡ 0 → q.p < q.r) × (q.l2 ≡ 0 → q.r < q.s))
  unfolding ties_in_order
  ties-tested =
      let first = tie-tested q.l1 q.p q.r in
      let second = tie-tested q.l2 q.r q.s in
      let both = and-eq-true_iff (tie_in_order q.l1 q.p q.r) (tie_in_order q.l2 q.r q.s) in (
        λ h. let t = both.0 h in (first.0 t.0, second.0 t.1),
        λ h. both.1 (first.1 h.0, second.1 h.1),
      )

  faces-tested : (faces_in_last u q ≡ true)
      ↔ ((remainder_on q 1 ≡ D → q.k1 ≡ u.n1 - 1)
      × (remainder_on q 2 ≡ D → q.k2 ≡ u.n2 - 1)
      × (remainder_on q 3 ≡ D → q.k3 ≡ u.n3 - 1))
  unfolding faces_in_last
  faces-tested =
      let t1 = face-tested (remainder_on q 1) D u.n1 q.k1 in
      let t2 = face-tested (remainder_on q 2) D u.n2 q.k2 in
      let t3 = face-tested (remainder_on q 3) D u.n3 q.k3 in
      let f1 = face_in_last (remainder_on q 1) D u.n1 q.k1 in
      let f2 = face_in_last (remainder_on q 2) D u.n2 q.k2 in
      let f3 = face_in_last (remainder_on q 3) D u.n3 q.k3 in (
        λ h.
            let b = (and-eq-true_iff (f1 && f2) f3).0 h in
            let a = (and-eq-true_iff f1 f2).0 b.0 in
            (t1.0 a.0, t2.0 a.1, t3.0 b.1),
        λ h. (and-eq-true_iff (f1 && f2) f3).1
            ((and-eq-true_iff f1 f2).1 (t1.1 h.0, t2.1 h.1), t3.1 h.2),
      )

  remainder-small : (a : ℕ) → remainder_on q a ≤ q.l1 + q.l2 + q.l3
  unfolding remainder_on
  remainder-small a = go (eqb a q.p) (eqb a q.r)
    where
      go : (s t : Bool)
          → cond s (q.l1 + q.l2 + q.l3) (cond t (q.l2 + q.l3) q.l3) ≤ q.l1 + q.l2 + q.l3
      go true t = omega arith
      go false true = omega arith
      go false false = omega arith

  -- where L0 is not 0, no remainder is that of a far face
  pub no_face : (q.l0 ≡ 0 → ⊥) → faces_in_last u q ≡ true
  no_face h =
      let inner : (a : ℕ) → remainder_on q a ≡ D → ⊥
      = λ a e. h (let small = remainder-small a in omega arith) in
      faces-tested.1 (λ e. absurd (inner 1 e), λ e. absurd (inner 2 e), λ e. absurd (inner 3 e))

  -- what passes the test is possible in each field
  pub is-possible : possible u q ≡ true → Possible u q
  unfolding possible
  is-possible h =
      let d = (and-eq-true_iff _ (faces_in_last u q)).0 h in
      let c = (and-eq-true_iff _ (ties_in_order q)).0 d.0 in
      let b = (and-eq-true_iff _ (inside (net_of u) (sizes u) (placing_cell q))).0 c.0 in
      let a = (and-eq-true_iff (are_axes q.p q.r q.s) (passes (divisor_checks (net_of u) D))).0 b.0 in
      let ties = ties-tested.0 c.1 in
      let faces = faces-tested.0 d.1 in
      record {
        axes = (axes-tested q.p q.r q.s).0 a.0;
        divisor = (divisor-tested (net_of u) D).0 a.1;
        point_inside = b.1;
        first-tie = ties.0;
        second-tie = ties.1;
        face1 = faces.0;
        face2 = faces.1;
        face3 = faces.2;
      }

  -- and the other way round
  pub possible-is : Possible u q → possible u q ≡ true
  unfolding possible
  possible-is h =
      simp (
        (axes-tested q.p q.r q.s).1 h.axes,
        (divisor-tested (net_of u) D).1 h.divisor,
        h.point_inside,
        ties-tested.1 (h.first-tie, h.second-tie),
        faces-tested.1 (h.face1, h.face2, h.face3),
      )

  pub record PlacingAccepted : Type 0 where
    pub unit : Equipped u
    pub possible : Possible u q

  -- a unit and a placing that pass 21, 22 and 17
  pub placing-accepted : placing_checks u q ≡ no_refusal → PlacingAccepted
  unfolding placing_checks
  placing-accepted h =
      let a = then-passed (unit_checks u) _ h in
      record {
        unit = equipped u a.0;
        possible = is-possible (not-false _ (if-passed ImpossiblePlacing (not (possible u q)) _ a.1).0);
      }

  -- and past 4 and 9 with long enough slices
  pub placed-accepted : (net corrections uncertainties : ℕ)
      → placed_checks u q net corrections uncertainties ≡ no_refusal
      → PlacingAccepted × Lent u net corrections uncertainties
  unfolding placed_checks
  placed-accepted net corrections uncertainties h =
      let a = then-passed (placing_checks u q) _ h in
      let p = placing-accepted a.0 in
      (p, lent_by u net corrections uncertainties p.unit a.1)

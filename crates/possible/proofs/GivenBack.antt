-- A placing that is possible is that of a point: of (o + k)×D + u on every axis, with o the origin and u the
-- remainder there.
use mathlib.Core.Bool.{Bool, cond, false, true}
use mathlib.Core.Logic.{◌⊎◌, inl, inr}
use mathlib.Core.Path.{◌∙◌, ◌≡◌, ap, refl}
use Prim.Native.Nat.{◌%◌, ◌*◌, ◌+◌, ◌-◌, ◌/◌, ◌<◌, ◌≤◌, ℕ}
use native.Mathlib.Nat.{add-zero, div-eq_of_lt, eq-or-lt_of_le, mod-eq_of_lt, mul-add-div}
use native.Mathlib.Nat.{mul-add-mod_self_left, mul-le-mul, mul-le-mul_left, pos_of_ne-zero}
use native.Mathlib.Omega.{arith}
use borrow.Author.Tests.{le-leb, lt-leb}
use lib.Dec.{eqb, leb}
use lib.IntN.{◌*ℤ◌, ◌+ℤ◌, pos, ℤ}
use Rattle.spline.specs.Multiplicities.{extent}
use Rattle.spline.specs.Place.{Axis, a1, a2, a3, on_axes}
use Rattle.allowed.proofs.Limits.{BlockLimits}
use Rattle.unit.proofs.Limits.{block-limits}
use Rattle.unit.specs.Unit.{net_of, sizes}
use Rattle.unit.specs.declared.Unit.{Unit}
use Rattle.limits.proofs.Accepted.{equipped}
use Rattle.limits.specs.Limits.{unit_checks}
use Rattle.divisor_checks.proofs.Accepted.{divisor-passes}
use Rattle.coordinates.proofs.Faces.{off-face, on-face}
use Rattle.coordinates.proofs.Origin.{read_past}
use Rattle.coordinates.specs.Coordinates.{from_origin, located, sign_check}
use Rattle.cell_checks.specs.Inside.{cell_check, inside_on}
use Rattle.axis_order.specs.AxisOrder.{axis_number, rank_axes, with_third}
use Rattle.axis_order.specs.Inner.Ranking.{Axes, o123, o132, o213, o231, o312, o321}
use Rattle.axis_order.specs.Weights.{placing_by, placing_cell, weight_sum}
use Rattle.axis_order.specs.declared.Placing.{Placing}
use Rattle.placing.proofs.Cells.{cell-inside, inside-axes}
use Rattle.placing.specs.Place.{inside_check, place_answer, position_checks}
use Rattle.placing.specs.Placing.{placing}
use Rattle.placing_fields.specs.Fields.{remainder_on}
use Rattle.possible.proofs.FieldTests.{Possible}
use Rattle.std.specs.Prelude.{Ok}
use Rattle.checks.specs.Checks.{no_refusal}

-- the coordinate of a cell and a remainder lies there
located-back : (k r D n : ℕ) → 1 ≤ D → r ≤ D → k < n → (r ≡ D → k ≡ n - 1)
    → located (D * k + r) D n ≡ record { cell = k; remainder = r }
located-back k r D n some most below last = go (eq-or-lt_of_le most)
  where
    go : (r ≡ D) ⊎ (r < D) → located (D * k + r) D n ≡ record { cell = k; remainder = r }
    go (inl e) =
        let l = last e in
        let next : n ≡ k + 1 = omega arith in
        let back : k + 1 - 1 ≡ k = omega arith in
        rw (next, e) (on-face (D * k + D) D (k + 1) (omega arith) ∙ rw back refl)
    go (inr h) =
        let far : D * (k + 1) ≤ D * n = mul-le-mul_left D (omega arith) in
        let cell : (D * k + r) / D ≡ k
        = mul-add-div some k r ∙ ap (λ (i : ℕ). k + i) (div-eq_of_lt h) ∙ add-zero k in
        let remainder : (D * k + r) % D ≡ r = mul-add-mod_self_left D k r ∙ mod-eq_of_lt h in
        off-face (D * k + r) D n (λ e. omega arith) ∙ rw (cell, remainder) refl

-- a weight between axes that stand the higher first
weight-some : (l a b : ℕ) → (l ≡ 0 → a < b) → b ≤ a → 1 ≤ l
weight-some l a b h k = pos_of_ne-zero (λ e. let t = h e in omega arith)

module _ (k : Axis → ℕ) (l0 l1 l2 l3 : ℕ) where
  abbrev fields : ℕ → ℕ → ℕ → Placing
  fields p r s =
      record { k1 = k a1; k2 = k a2; k3 = k a3; p = p; r = r; s = s; l0 = l0; l1 = l1; l2 = l2; l3 = l3 }

  abbrev remainders : Placing → Axis → ℕ
  remainders q = on_axes (remainder_on q 1) (remainder_on q 2) (remainder_on q 3)

  w0 : l0 + l1 + l2 + l3 - (l1 + l2 + l3) ≡ l0
  w0 = omega arith

  w1 : l1 + l2 + l3 - (l2 + l3) ≡ l1
  w1 = omega arith

  w2 : l2 + l3 - l3 ≡ l2
  w2 = omega arith

  -- remainders that fall, from an axis to one behind it
  second-first : leb (l2 + l3) (l1 + l2 + l3) ≡ true
  second-first = le-leb (l2 + l3) (l1 + l2 + l3) (omega arith)

  third-first : leb l3 (l1 + l2 + l3) ≡ true
  third-first = le-leb l3 (l1 + l2 + l3) (omega arith)

  third-second : leb l3 (l2 + l3) ≡ true
  third-second = le-leb l3 (l2 + l3) (omega arith)

  -- and back, where a weight between them is not 0
  first-second : 1 ≤ l1 → leb (l1 + l2 + l3) (l2 + l3) ≡ false
  first-second h = lt-leb (l1 + l2 + l3) (l2 + l3) (omega arith)

  second-third : 1 ≤ l2 → leb (l2 + l3) l3 ≡ false
  second-third h = lt-leb (l2 + l3) l3 (omega arith)

  first-third : 1 ≤ l1 + l2 → leb (l1 + l2 + l3) l3 ≡ false
  first-third h = lt-leb (l1 + l2 + l3) l3 (omega arith)

  -- its remainders, ranked, give the placing back
  ranked-back : {p r s : ℕ} → Axes p r s → (l1 ≡ 0 → p < r) → (l2 ≡ 0 → r < s)
      → (let q = fields p r s in placing_by k (remainders q) (weight_sum q) (rank_axes (remainders q)) ≡ q)
  unfolding remainder_on rank_axes with_third
  ranked-back o123 first second = simp (second-first, third-second, w0, w1, w2)
  ranked-back o132 first second =
      let m = weight-some l2 3 2 second (omega arith) in
      simp (third-first, second-third m, second-first, w0, w1, w2)
  ranked-back o213 first second =
      let m = weight-some l1 2 1 first (omega arith) in
      simp (first-second m, third-second, w0, w1, w2)
  ranked-back o231 first second =
      let m = weight-some l2 3 1 second (omega arith) in
      simp (first-third (omega arith), second-third m, second-first, w0, w1, w2)
  ranked-back o312 first second =
      let m = weight-some l1 3 1 first (omega arith) in
      simp (third-second, first-third (omega arith), first-second m, w0, w1, w2)
  ranked-back o321 first second =
      let m = weight-some l1 3 2 first (omega arith) in
      let n = weight-some l2 2 1 second (omega arith) in
      simp (second-third n, first-third (omega arith), first-second m, w0, w1, w2)

-- no remainder is above D
remainder-le : (q : Placing) (a : ℕ) → remainder_on q a ≤ weight_sum q
unfolding remainder_on
remainder-le q a = go (eqb a q.p) (eqb a q.r)
  where
    go : (s t : Bool)
        → cond s (q.l1 + q.l2 + q.l3) (cond t (q.l2 + q.l3) q.l3) ≤ weight_sum q
    go true t = omega arith
    go false true = omega arith
    go false false = omega arith

-- how far from the origin the point of a placing lies on an axis
abbrev pub distance_on : Placing → Axis → ℕ
distance_on q b = weight_sum q * placing_cell q b + remainder_on q (axis_number b)

-- and its coordinate over D, where the origin is o
abbrev pub coordinate : Placing → Axis → ℤ → ℤ
coordinate q b o = pos (distance_on q b) +ℤ o *ℤ pos (weight_sum q)

module _ (u : Unit) (q : Placing) (e : unit_checks u ≡ no_refusal) (h : Possible u q) where
  abbrev D : ℕ
  D = weight_sum q

  limits : BlockLimits u.n1 u.n2 u.n3
  limits = (block-limits u (equipped u e).block_held).limits

  -- an axis with its distance: this lies in the cell, and is small
  abbrev Back : ℕ → Axis → Type 0
  Back n b =
      (located (distance_on q b) D n
      ≡ record { cell = placing_cell q b; remainder = remainder_on q (axis_number b) })
      × (distance_on q b ≤ 262144)

  back_on : (b : Axis) (n : ℕ) → 1 ≤ n → n ≤ 64 → inside_on (extent (net_of u) b) n (placing_cell q b) ≡ true
      → (remainder_on q (axis_number b) ≡ D → placing_cell q b ≡ n - 1) → Back n b
  back_on b n least most inside last =
      let k = placing_cell q b in
      let r = remainder_on q (axis_number b) in
      let below = ((cell-inside (extent (net_of u) b) n k least).0 inside).1 in
      let small = remainder-le q (axis_number b) in
      let next : k + 1 ≤ 64 = omega arith in
      let size : D * (k + 1) ≤ 4096 * 64 = mul-le-mul h.divisor.few next in
      (located-back k r D n h.divisor.some small below last, omega arith)

  back : Back u.n1 a1 × Back u.n2 a2 × Back u.n3 a3
  back =
      let i = (inside-axes (net_of u) (sizes u) (placing_cell q)).0 h.point_inside in (
        back_on a1 u.n1 limits.least1 limits.most1 i.0 h.face1,
        back_on a2 u.n2 limits.least2 limits.most2 i.1 h.face2,
        back_on a3 u.n3 limits.least3 limits.most3 i.2 h.face3,
      )

  -- the point that the placing stands for
  abbrev pub x : ℤ
  x = coordinate q a1 u.o1

  abbrev pub y : ℤ
  y = coordinate q a2 u.o2

  abbrev pub z : ℤ
  z = coordinate q a3 u.o3

  read1 : from_origin x u.o1 D ≡ pos (distance_on q a1)
  read1 = read_past (distance_on q a1) u.o1 D

  read2 : from_origin y u.o2 D ≡ pos (distance_on q a2)
  read2 = read_past (distance_on q a2) u.o2 D

  read3 : from_origin z u.o3 D ≡ pos (distance_on q a3)
  read3 = read_past (distance_on q a3) u.o3 D

  placing-back : placing u x y z D ≡ q
  unfolding placing
  placing-back =
      rw (read1, read2, read3, back.0.0, back.1.0, back.2.0)
      (ranked-back (placing_cell q) q.l0 q.l1 q.l2 q.l3 h.axes h.first-tie h.second-tie)

  checks-passed : position_checks u x y z D ≡ no_refusal
  unfolding position_checks inside_check sign_check cell_check
  checks-passed =
      rw (
        read1,
        read2,
        read3,
        back.0.0,
        back.1.0,
        back.2.0,
        divisor-passes (net_of u) D h.divisor,
        h.point_inside,
      )
      refl

  -- the placing call gives it for this point
  pub given_back : place_answer u x y z D ≡ Ok q
  unfolding place_answer
  given_back = rw (e, checks-passed, placing-back) refl

  -- which is not far from the origin
  pub distances-small : (distance_on q a1 ≤ 262144) × (distance_on q a2 ≤ 262144) × (distance_on q a3 ≤ 262144)
  distances-small = (back.0.1, back.1.1, back.2.1)

-- The window of a point that is inside lies within the block and, at every local place, within the net.
use mathlib.Core.Bool.{Bool, cond, false, true}
use mathlib.Core.Path.{◌≡◌, refl, sym}
use Prim.Native.Nat.{◌*◌, ◌+◌, ◌-◌, ◌<◌, ◌≤◌, ℕ}
use native.Mathlib.Nat.{lt_of_lt_of_le, mul-le-mul, mul-le-mul_left}
use native.Mathlib.Omega.{arith}
use borrow.Author.Tests.{ltb-false, ltb-true}
use lib.Dec.{eqb, ltb}
use Rattle.sums.proofs.Places.{index_in}
use Rattle.spline.specs.Box.{index, places, width}
use Rattle.spline.specs.Multiplicities.{Multiplicities, degree, extent}
use Rattle.spline.specs.Place.{a1, a2, a3}
use Rattle.allowed.proofs.Limits.{BlockLimits, NetLimits}
use Rattle.unit.proofs.Limits.{block-limits, net-limits}
use Rattle.unit.specs.Unit.{net_of, sizes}
use Rattle.unit.specs.declared.Unit.{Unit}
use Rattle.shape.proofs.Shapes.{limits-boxed}
use Rattle.cell_checks.specs.Inside.{inside}
use Rattle.axis_order.specs.Inner.Ranking.{Axes}
use Rattle.axis_order.specs.Weights.{placing_cell}
use Rattle.axis_order.specs.declared.Placing.{Placing}
use Rattle.placing.proofs.Cells.{cell-inside, inside-axes}
use Rattle.blending.specs.Inner.Frame.{FrameLimits, offset_of, share_at}
use Rattle.blending.specs.Inner.Window.{InWindow}
use Rattle.tetrahedron.proofs.LocalPlaces.{ordered_at}
use Rattle.tetrahedron.proofs.Numbers.{count-few, degree-at}
use Rattle.tetrahedron.specs.LocalPlaces.{local, local_at}
use Rattle.tetrahedron.specs.declared.local.LocalPlace.{LocalPlace}
use Rattle.frame.specs.Frames.{frame_of, step_on}
use Rattle.frame.specs.declared.Frame.{Frame}
use Rattle.blended.proofs.LocalPlaces.{local-index, local-le, sums-of}
use Rattle.blended.specs.Blend.{local_of}
use Rattle.blended.specs.Inner.Fit.{Fit}

-- E ≤ k + 1 ≤ n on every axis
pub record Inside (u : Unit) (q : Placing) : Type 0 where
  pub axis1 : (extent (net_of u) a1 ≤ q.k1 + 1) × (q.k1 < u.n1)
  pub axis2 : (extent (net_of u) a2 ≤ q.k2 + 1) × (q.k2 < u.n2)
  pub axis3 : (extent (net_of u) a3 ≤ q.k3 + 1) × (q.k3 < u.n3)

-- what `inside` says of a placing's cell
pub inside-facts : (u : Unit) (q : Placing) → BlockLimits u.n1 u.n2 u.n3
    → inside (net_of u) (sizes u) (placing_cell q) ≡ true → Inside u q
inside-facts u q l t =
    let i = (inside-axes (net_of u) (sizes u) (placing_cell q)).0 t in
    record {
      axis1 = (cell-inside (extent (net_of u) a1) u.n1 q.k1 l.least1).0 i.0;
      axis2 = (cell-inside (extent (net_of u) a2) u.n2 q.k2 l.least2).0 i.1;
      axis3 = (cell-inside (extent (net_of u) a3) u.n3 q.k3 l.least3).0 i.2;
    }

-- a place of the box on one axis
on-axis : (m E i u : ℕ) → i < E → u ≤ m → m * i + u < m * E + 1
on-axis m E i u h l = omega (arith, mul-le-mul_left m h)

-- where a share stands, by its entry and its local place
pub place-sum : (m w1 w2 u1 u2 u3 i1 i2 i3 : ℕ)
    → m * (i1 + w1 * (i2 + w2 * i3)) + (u1 + w1 * (u2 + w2 * u3))
    ≡ m * i1 + u1 + w1 * (m * i2 + u2 + w2 * (m * i3 + u3))
place-sum m w1 w2 u1 u2 u3 i1 i2 i3 = omega arith

-- the offset of a local place is its index in the net's box
pub offset-is : (u : Unit) (q : Placing) (l : LocalPlace) → Axes q.p q.r q.s
    → l.s ≤ l.r → l.r ≤ l.p
    → (let t = local_of q l in offset_of (frame_of u q) l ≡ index (width (net_of u)) (t a1) (t a2) (t a3))
offset-is u q l axes h k =
    let s = sums-of l.p l.r l.s h k in
    let w = width (net_of u) in
    sym (rw (s.0, s.1) at (local-index q (w a1) (w a2) (l.p - l.r) (l.r - l.s) l.s axes))

-- a step through the box is no more than a layer of the largest
step-most : (w1 w2 a : ℕ) → w1 ≤ 91 → w2 ≤ 91 → step_on w1 w2 a ≤ 8281
unfolding step_on
step-most w1 w2 a h k = go (eqb a 1) (eqb a 2)
  where
    go : (s t : Bool) → cond s 1 (cond t w1 (w1 * w2)) ≤ 8281
    go true t = omega arith
    go false true = omega arith
    go false false = mul-le-mul h k

module _ (u : Unit) (q : Placing) (net_length corrections_length uncertainties_length : ℕ)
    (h : Fit u net_length corrections_length uncertainties_length q) where
  abbrev v : Multiplicities
  v = net_of u

  abbrev f : Frame
  f = frame_of u q

  block : BlockLimits u.n1 u.n2 u.n3
  block = (block-limits u h.block_held).limits

  net : NetLimits v
  net = (net-limits u h.net_held).limits

  -- a placing that can be blended is inside
  pub inside_of : Inside u q
  inside_of = inside-facts u q block h.point_inside

  -- its frame is within limits
  pub limits_of : FrameLimits f
  limits_of =
      let s = limits-boxed v net in
      let n = net in
      let b = block in
      let i = inside_of in
      let c = count-few (degree v) in
      let w1 = s.most1 in
      let w2 = s.most2 in
      record {
        degree = s.degree_most;
        places = c;
        grouped = omega arith;
        groups_most = omega arith;
        some1 = omega arith;
        some2 = omega arith;
        some3 = omega arith;
        extent1 = omega arith;
        extent2 = omega arith;
        extent3 = omega arith;
        width1 = w1;
        width2 = w2;
        size1 = b.most1;
        size2 = b.most2;
        window1 = omega arith;
        window2 = omega arith;
        window3 = omega arith;
        step1 = step-most (width v a1) (width v a2) q.p w1 w2;
        step2 = step-most (width v a1) (width v a2) q.r w1 w2;
        step3 = step-most (width v a1) (width v a2) q.s w1 w2;
      }

  -- an entry of the window
  pub entry_in : (j1 j2 j3 : ℕ) → j1 ≤ q.k1 → j2 ≤ q.k2 → j3 ≤ q.k3
      → j1 + u.n1 * (j2 + u.n2 * j3) < places (sizes u)
  entry_in j1 j2 j3 l1 l2 l3 =
      let i = inside_of in
      index_in u.n1 u.n2 u.n3 j1 j2 j3 (omega arith) (omega arith) (omega arith)

  entry-at : (x y z : ℕ) → x < f.e1 → y < f.e2 → z < f.e3
      → f.low1 + x + u.n1 * (f.low2 + y + u.n2 * (f.low3 + z)) < places (sizes u)
  entry-at x y z lx ly lz =
      let i = inside_of in
      entry_in (f.low1 + x) (f.low2 + y) (f.low3 + z) (omega arith) (omega arith) (omega arith)

  -- its share at a local place within the degree
  share_in : (l : LocalPlace) → l.s ≤ l.r → l.r ≤ l.p → l.p ≤ degree v → (x y z : ℕ)
      → x < f.e1 → y < f.e2 → z < f.e3 → share_at f x y z + offset_of f l < net_length
  share_in l hs hr hp x y z lx ly lz =
      let m = degree v in
      let t = local_of q l in
      let small = local-le q (l.p - l.r) (l.r - l.s) l.s m (omega arith) in
      let i1 = f.e1 - 1 - x in
      let i2 = f.e2 - 1 - y in
      let i3 = f.e3 - 1 - z in
      let within_box =
      index_in (width v a1) (width v a2) (width v a3) (m * i1 + t a1) (m * i2 + t a2) (m * i3 + t a3)
      (on-axis m (extent v a1) i1 (t a1) (omega arith) (small a1))
      (on-axis m (extent v a2) i2 (t a2) (omega arith) (small a2))
      (on-axis m (extent v a3) i3 (t a3) (omega arith) (small a3)) in
      let place = place-sum m (width v a1) (width v a2) (t a1) (t a2) (t a3) i1 i2 i3 in
      rw (offset-is u q l h.axes hs hr, place)
      (lt_of_lt_of_le within_box h.net_long)

  -- all of them, where the offsets are those of the local places and 0 past the last
  pub in_window : (offset : ℕ → ℕ) → ((t : ℕ) → t < f.count → offset t ≡ offset_of f (local_at t))
      → ((t : ℕ) → f.count ≤ t → t < 220 → offset t ≡ 0)
      → InWindow net_length corrections_length uncertainties_length offset f
  in_window offset listed past = record {
    limits = limits_of;
    in_corrections = λ x y z lx ly lz.
        lt_of_lt_of_le (entry-at x y z lx ly lz) h.corrections_long;
    in_uncertainties = λ x y z lx ly lz.
        lt_of_lt_of_le (entry-at x y z lx ly lz) h.uncertainties_long;
    in_net = λ x y z t lx ly lz l. reach t (ltb t f.count) refl l x y z lx ly lz;
  }
    where
      reach : (t : ℕ) (b : Bool) → ltb t f.count ≡ b → t < 4 * f.groups → (x y z : ℕ)
          → x < f.e1 → y < f.e2 → z < f.e3 → share_at f x y z + offset t < net_length
      reach t true e l x y z lx ly lz =
          let o = ordered_at t in
          let k = ltb-true t f.count e in
          rw (listed t k)
          (share_in (local_at t) o.third o.second (degree-at (degree v) t limits_of.degree k)
          x y z lx ly lz)
      reach t false e l x y z lx ly lz =
          let first = share_in (local 0 0 0) (omega arith) (omega arith) (omega arith) x y z lx ly lz in
          let m = limits_of.groups_most in
          rw (past t (ltb-false t f.count e) (omega arith)) (omega (arith, first))

  -- the same of a frame that is found to be this one
  pub in-window-of : (g : Frame) → g ≡ f → (offset : ℕ → ℕ)
      → ((t : ℕ) → t < g.count → offset t ≡ offset_of g (local_at t))
      → ((t : ℕ) → g.count ≤ t → t < 220 → offset t ≡ 0)
      → InWindow net_length corrections_length uncertainties_length offset g
  in-window-of g e offset =
      rw e (λ (listed : (t : ℕ) → t < f.count → offset t ≡ offset_of f (local_at t))
      (past : (t : ℕ) → f.count ≤ t → t < 220 → offset t ≡ 0). in_window offset listed past)

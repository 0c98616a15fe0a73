-- What the sums over the window come to, by the definitions.
use mathlib.Core.Bool.{Bool}
use mathlib.Core.Path.{◌∙◌, ◌≡◌, ap, ap₂, refl}
use Prim.Native.Nat.{◌*◌, ◌+◌, ◌-◌, ◌<◌, ◌≤◌, suc, ℕ}
use native.Mathlib.Omega.{arith}
use lib.Dec.{eqb}
use lib.IntN.{◌*ℤ◌, pos, ℤ}
use Rattle.sums.proofs.Search.{all-cong}
use Rattle.sums.proofs.Simplex.{all-tetrahedron}
use Rattle.sums.proofs.Sum.{sum_box-cong, sum_box-mirror}
use Rattle.sums.proofs.SumZ.{sum_box_z-cong, sum_box_z-mirror}
use Rattle.sums.specs.Coefficient.{factorial}
use Rattle.sums.specs.Sum.{sum_box, sum_box_z}
use Rattle.spline.specs.Box.{index}
use Rattle.spline.specs.Multiplicities.{Multiplicities, degree}
use Rattle.spline.specs.Place.{Axis, a1, a2, a3}
use Rattle.unit.specs.Unit.{net_of, sizes}
use Rattle.unit.specs.declared.Unit.{Unit}
use Rattle.axis_order.specs.Inner.Ranking.{Axes}
use Rattle.axis_order.specs.Weights.{placing_cell}
use Rattle.axis_order.specs.declared.Placing.{Placing}
use Rattle.blending.proofs.Windows.{Inside, offset-is, place-sum}
use Rattle.blending.specs.Inner.Frame.{entry_at, offset_of, share_at}
use Rattle.blending.specs.Inner.Sums.{sums, sums_to}
use Rattle.blending.specs.Inner.Window.{window_sums}
use Rattle.tetrahedron.proofs.Numbers.{count-is, local-is}
use Rattle.tetrahedron.specs.LocalPlaces.{local_at}
use Rattle.tetrahedron.specs.Unity.{whole_at}
use Rattle.tetrahedron.specs.declared.local.LocalPlace.{LocalPlace}
use Rattle.frame.specs.Frames.{frame_of}
use Rattle.frame.specs.declared.Frame.{Frame}
use Rattle.blended.specs.Blend.{local_of}
use Rattle.blended.specs.Blending.{adds_up, all_simplex, blended_correction, blended_uncertainty, share, share_sum}

-- ---- the sums at a local place

-- an entry of the window, counted from its lowest one and from its highest
mirrored : (k E x : ℕ) → E ≤ k + 1 → x < E → k + 1 - E + x ≡ k - (E - 1 - x)
mirrored k E x h l = omega arith

module _ (u : Unit) (q : Placing) (net : ℕ → ℕ) (inside : Inside u q) (axes : Axes q.p q.r q.s)
    (l : LocalPlace) (third : l.s ≤ l.r) (second : l.r ≤ l.p) where
  abbrev v : Multiplicities
  v = net_of u

  abbrev f : Frame
  f = frame_of u q

  abbrev t : Axis → ℕ
  t = local_of q l

  -- the entry at (j1, j2, j3), from the number at an index
  abbrev pub at_entry : {A : Type 0} → (ℕ → A) → ℕ → ℕ → ℕ → A
  at_entry c j1 j2 j3 = c (index (sizes u) j1 j2 j3)

  -- a share, counted from the window's lowest entry and from its highest
  share-is : (x y z : ℕ)
      → net (share_at f x y z + offset_of f l) ≡ share v net t (f.e1 - 1 - x) (f.e2 - 1 - y) (f.e3 - 1 - z)
  unfolding share
  share-is x y z =
      ap net
      (ap (λ (k : ℕ). share_at f x y z + k) (offset-is u q l axes third second)
      ∙ place-sum f.m f.w1 f.w2 (t a1) (t a2) (t a3) (f.e1 - 1 - x) (f.e2 - 1 - y) (f.e3 - 1 - z))

  -- an entry, the same
  entry-is : {A : Type 0} (c : ℕ → A) (x y z : ℕ) → x < f.e1 → y < f.e2 → z < f.e3
      → c (entry_at f x y z)
      ≡ at_entry c (q.k1 - (f.e1 - 1 - x)) (q.k2 - (f.e2 - 1 - y)) (q.k3 - (f.e3 - 1 - z))
  entry-is c x y z lx ly lz =
      rw (
        ← (mirrored q.k1 f.e1 x inside.axis1.0 lx),
        ← (mirrored q.k2 f.e2 y inside.axis2.0 ly),
        ← (mirrored q.k3 f.e3 z inside.axis3.0 lz),
      ) refl

  -- the shares of the window
  shares-are : (corrections : ℕ → ℤ) (uncertainties : ℕ → ℕ)
      → (window_sums net corrections uncertainties f (offset_of f l)).shares ≡ share_sum v net t
  unfolding window_sums sums_to share_sum sum_box
  shares-are corrections uncertainties =
      sum_box-cong f.e1 f.e2 f.e3 _ _ (λ x y z lx ly lz. share-is x y z)
      ∙ sum_box-mirror f.e1 f.e2 f.e3 (share v net t)

  -- the blended correction
  corrections-are : (corrections : ℕ → ℤ) (uncertainties : ℕ → ℕ)
      → (window_sums net corrections uncertainties f (offset_of f l)).corrections
      ≡ blended_correction v net (at_entry corrections) (placing_cell q) t
  unfolding window_sums sums_to blended_correction sum_box_z
  corrections-are corrections uncertainties =
      sum_box_z-cong f.e1 f.e2 f.e3 _ _ (λ x y z lx ly lz.
      ap₂ (λ (s : ℕ) (c : ℤ). pos s *ℤ c) (share-is x y z) (entry-is corrections x y z lx ly lz))
      ∙ sum_box_z-mirror f.e1 f.e2 f.e3 (λ i1 i2 i3.
      pos (share v net t i1 i2 i3) *ℤ at_entry corrections (q.k1 - i1) (q.k2 - i2) (q.k3 - i3))

  -- the blended uncertainty
  uncertainties-are : (corrections : ℕ → ℤ) (uncertainties : ℕ → ℕ)
      → (window_sums net corrections uncertainties f (offset_of f l)).uncertainties
      ≡ blended_uncertainty v net (at_entry uncertainties) (placing_cell q) t
  unfolding window_sums sums_to blended_uncertainty sum_box
  uncertainties-are corrections uncertainties =
      sum_box-cong f.e1 f.e2 f.e3 _ _ (λ x y z lx ly lz.
      ap₂ (λ (s c : ℕ). s * c) (share-is x y z) (entry-is uncertainties x y z lx ly lz))
      ∙ sum_box-mirror f.e1 f.e2 f.e3 (λ i1 i2 i3.
      share v net t i1 i2 i3 * at_entry uncertainties (q.k1 - i1) (q.k2 - i2) (q.k3 - i3))

  -- all three
  pub sums-are : (corrections : ℕ → ℤ) (uncertainties : ℕ → ℕ)
      → window_sums net corrections uncertainties f (offset_of f l)
      ≡ sums (share_sum v net t) (blended_correction v net (at_entry corrections) (placing_cell q) t)
      (blended_uncertainty v net (at_entry uncertainties) (placing_cell q) t)
  sums-are corrections uncertainties =
      rw (
        ← (shares-are corrections uncertainties),
        ← (corrections-are corrections uncertainties),
        ← (uncertainties-are corrections uncertainties),
      ) refl

-- ---- whether the shares add up

-- a test of every local place by number is the test of all (b0..b3)
pub adds-up-by-number : (v : Multiplicities) (net : ℕ → ℕ) (q : Placing) → degree v ≤ 9
    → whole_at (degree v) (λ t. share_sum v net (local_of q (local_at t))) ≡ adds_up v net q
unfolding adds_up all_simplex whole_at
adds-up-by-number v net q h =
    let m = degree v in
    let test : LocalPlace → Bool = λ l. eqb (share_sum v net (local_of q l)) (factorial m) in
    rw (count-is m h)
    (all-tetrahedron (suc m) (λ t. test (local_at t))
    ∙ all-cong (suc m) _ _ (λ p lp. all-cong (suc p) _ _ (λ r lr. all-cong (suc r) _ _ (λ s ls.
    ap test (local-is p r s (omega arith) (omega arith) (omega arith))))))

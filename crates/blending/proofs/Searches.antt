-- The search of the window is the definition's search of the block, and what it says of the entries.
use mathlib.Core.Bool.{Bool, ◌&&◌, and-eq-true_iff, false, true}
use mathlib.Core.Path.{◌≡◌, refl}
use Prim.Native.Nat.{◌%◌, ◌*◌, ◌+◌, ◌-◌, ◌/◌, ◌<◌, ◌≤◌, ℕ}
use native.Mathlib.Omega.{arith}
use borrow.Author.Tests.{le-leb, leb-true}
use lib.Dec.{leb}
use lib.IntN.{ℤ}
use Rattle.sums.proofs.Places.{index_back, index_in, place-x, place-y, place-z}
use Rattle.sums.proofs.Search.{first-nowhere}
use Rattle.sums.specs.Search.{nowhere}
use Rattle.spline.specs.Box.{index}
use Rattle.spline.specs.Multiplicities.{extent}
use Rattle.spline.specs.Place.{a1, a2, a3}
use Rattle.unit.specs.Gaps.{is_gap}
use Rattle.unit.specs.Unit.{net_of, sizes}
use Rattle.unit.specs.declared.Unit.{Unit}
use Rattle.axis_order.specs.Weights.{placing_cell}
use Rattle.axis_order.specs.declared.Placing.{Placing}
use Rattle.window.specs.Window.{in_window_on}
use Rattle.blended.specs.Gaps.{first_gap, window_gap}
use Rattle.blending.proofs.FirstGap.{nested-first}
use Rattle.blending.proofs.Windows.{Inside}
use Rattle.blending.specs.Inner.Search.{window_gaps}
use Rattle.frame.specs.Frames.{frame_of}

in_window : (E k j : ℕ) → in_window_on E k j ≡ true → (k + 1 - E ≤ j) × (j ≤ k)
in_window E k j h =
    let s = (and-eq-true_iff (leb (k + 1 - E) j) (leb j k)).0 h in
    (leb-true _ _ s.0, leb-true _ _ s.1)

window_on : (E k j : ℕ) → k + 1 - E ≤ j → j ≤ k → in_window_on E k j ≡ true
window_on E k j h l = simp (le-leb _ _ h, le-leb _ _ l)

-- a conjunction of four fails where the last does whenever the first three hold
four-off : (a b c d : Bool) → (a ≡ true → b ≡ true → c ≡ true → d ≡ false) → (a && b && c && d) ≡ false
four-off true true true d h = h refl refl refl
four-off true true false d h = refl
four-off true false c d h = refl
four-off false b c d h = refl

module _ (u : Unit) (q : Placing) (corrections : ℕ → ℤ) (inside : Inside u q) where
  abbrev entry : ℕ → ℕ → ℕ → ℤ
  entry j1 j2 j3 = corrections (index (sizes u) j1 j2 j3)

  abbrev low1 : ℕ
  low1 = q.k1 + 1 - extent (net_of u) a1

  abbrev low2 : ℕ
  low2 = q.k2 + 1 - extent (net_of u) a2

  abbrev low3 : ℕ
  low3 = q.k3 + 1 - extent (net_of u) a3

  abbrev position : ℕ → ℕ → ℕ → ℕ
  position t1 t2 t3 = low1 + t1 + u.n1 * (low2 + t2 + u.n2 * (low3 + t3))

  abbrev test : ℕ → Bool
  test i = window_gap (net_of u) entry (placing_cell q) (i % u.n1) (i / u.n1 % u.n2) (i / u.n1 / u.n2)

  yes : (t1 t2 t3 : ℕ) → t1 < extent (net_of u) a1 → t2 < extent (net_of u) a2 → t3 < extent (net_of u) a3
      → is_gap (corrections (position t1 t2 t3)) ≡ true → test (position t1 t2 t3) ≡ true
  unfolding window_gap
  yes t1 t2 t3 l1 l2 l3 h =
      let i = inside in
      let x : low1 + t1 < u.n1 = omega arith in
      let y : low2 + t2 < u.n2 = omega arith in
      rw (
        place-x u.n1 u.n2 (low1 + t1) (low2 + t2) (low3 + t3) x y,
        place-y u.n1 u.n2 (low1 + t1) (low2 + t2) (low3 + t3) x y,
        place-z u.n1 u.n2 (low1 + t1) (low2 + t2) (low3 + t3) x y,
      )
      (simp (
        window_on (extent (net_of u) a1) q.k1 (low1 + t1) (omega arith) (omega arith),
        window_on (extent (net_of u) a2) q.k2 (low2 + t2) (omega arith) (omega arith),
        window_on (extent (net_of u) a3) q.k3 (low3 + t3) (omega arith) (omega arith),
      ) h)

  no : (i : ℕ) → i < u.n1 * u.n2 * u.n3
      → ((t1 t2 t3 : ℕ) → t1 < extent (net_of u) a1 → t2 < extent (net_of u) a2 → t3 < extent (net_of u) a3
      → position t1 t2 t3 ≡ i → is_gap (corrections (position t1 t2 t3)) ≡ false)
      → test i ≡ false
  unfolding window_gap
  no i l h =
      let s = inside in
      let back = index_back u.n1 u.n2 i in
      four-off _ _ _ _ (λ w1 w2 w3.
      let p1 = in_window (extent (net_of u) a1) q.k1 (i % u.n1) w1 in
      let p2 = in_window (extent (net_of u) a2) q.k2 (i / u.n1 % u.n2) w2 in
      let p3 = in_window (extent (net_of u) a3) q.k3 (i / u.n1 / u.n2) w3 in
      let d1 : low1 + (i % u.n1 - low1) ≡ i % u.n1 = omega arith in
      let d2 : low2 + (i / u.n1 % u.n2 - low2) ≡ i / u.n1 % u.n2 = omega arith in
      let d3 : low3 + (i / u.n1 / u.n2 - low3) ≡ i / u.n1 / u.n2 = omega arith in
      let t1 = i % u.n1 - low1 in
      let t2 = i / u.n1 % u.n2 - low2 in
      let t3 = i / u.n1 / u.n2 - low3 in
      let e : position t1 t2 t3 ≡ i = rw (d1, d2, d3) back in
      rw back (rw e at (h t1 t2 t3 (omega arith) (omega arith) (omega arith) e)))

  -- the search of the window by rows and layers is the definition's search of the block
  pub window-gap : window_gaps corrections (frame_of u q) ≡ first_gap (net_of u) (sizes u) entry (placing_cell q)
  unfolding window_gaps first_gap
  window-gap =
      let s = inside in
      nested-first u.n1 u.n2 u.n3 low1 low2 low3 (extent (net_of u) a1) (extent (net_of u) a2)
      (extent (net_of u) a3) (omega arith) (omega arith) (omega arith) (λ i. is_gap (corrections i)) test yes no

  -- where it finds nothing, no entry of the window is a gap
  pub no_gap : first_gap (net_of u) (sizes u) entry (placing_cell q) ≡ nowhere → (i1 i2 i3 : ℕ)
      → i1 < extent (net_of u) a1 → i2 < extent (net_of u) a2 → i3 < extent (net_of u) a3
      → is_gap (entry (q.k1 - i1) (q.k2 - i2) (q.k3 - i3)) ≡ false
  unfolding first_gap window_gap
  no_gap h i1 i2 i3 l1 l2 l3 =
      let s = inside in
      let j1 = q.k1 - i1 in
      let j2 = q.k2 - i2 in
      let j3 = q.k3 - i3 in
      let x : j1 < u.n1 = omega arith in
      let y : j2 < u.n2 = omega arith in
      let z : j3 < u.n3 = omega arith in
      let none = first-nowhere test (u.n1 * u.n2 * u.n3) h (index (sizes u) j1 j2 j3)
      (index_in u.n1 u.n2 u.n3 j1 j2 j3 x y z) in
      simp (
        window_on (extent (net_of u) a1) q.k1 j1 (omega arith) (omega arith),
        window_on (extent (net_of u) a2) q.k2 j2 (omega arith) (omega arith),
        window_on (extent (net_of u) a3) q.k3 j3 (omega arith) (omega arith),
      ) at
      (rw (
        place-x u.n1 u.n2 j1 j2 j3 x y,
        place-y u.n1 u.n2 j1 j2 j3 x y,
        place-z u.n1 u.n2 j1 j2 j3 x y,
      ) at none)

-- The nets and boxes of orders: one byte more, a longer order, and what a slice holds.
use mathlib.Core.List.{List, [], ◌++◌, ◌∷◌, map, map-append}
use mathlib.Core.Path.{◌∙◌, ◌≡◌, ap, subst, sym}
use Prim.Native.Nat.{◌*◌, ◌+◌, ◌<◌, ◌≤◌, ℕ}
use native.Mathlib.Nat.{le_trans, mul-le-mul}
use native.Mathlib.Omega.{arith}
use lib.ListN.{drop, get_or, length, length-map, take, take-append-drop}
use lib.Seq.{take-take}
use Rattle.sums.proofs.Coefficient.{factorial-nine}
use Rattle.sums.proofs.Places.{box-le}
use Rattle.sums.specs.Fill.{filled}
use Rattle.spline.proofs.Box.{spread-list}
use Rattle.spline.proofs.Multiplicities.{order-degree, order-positive}
use Rattle.spline.proofs.OrderNet.{built-snoc, order-high, order_le, order-low}
use Rattle.spline.proofs.Support.{High, high-mono}
use Rattle.spline.specs.Box.{net_list, spread, width}
use Rattle.spline.specs.Build.{built, direction, order_net, simple, stepped}
use Rattle.spline.specs.Multiplicities.{Multiplicities, degree, extent, more}
use Rattle.spline.specs.Multiplicities.{multiplicities_of, order_multiplicities}
use Rattle.spline.specs.Place.{Axis, Direction, Place, a1, a2, a3, along, diagonal}
use Rattle.orders.specs.Order.{order_number, order_places, order_width}
use Rattle.orders.proofs.Orders.{directions-next}

-- ---- one byte more

module _ (order : List ℕ) (t : ℕ) (l : t < length order) where
  abbrev d : Direction
  d = direction (get_or order t 0)

  -- it takes the net one step on
  pub net-next : order_net (take (t + 1) order)
      ≡ stepped d (degree (order_multiplicities (take t order))) (order_net (take t order))
  net-next =
      let ds = map direction (take t order) in
      ap (λ (es : List Direction). built es 1 simple) (directions-next order t l)
      ∙ built-snoc ds d 1 simple
      ∙ ap (λ (m : ℕ). stepped d m (order_net (take t order))) (sym (order-degree ds))

-- ---- a longer order has no smaller box

-- each multiplicity of the one is at most that of the other
record Within (v w : Multiplicities) : Type 0 where
  in1 : v.v1 ≤ w.v1
  in2 : v.v2 ≤ w.v2
  in3 : v.v3 ≤ w.v3
  in4 : v.v4 ≤ w.v4

more_within : (d : Direction) {v w : Multiplicities} → Within v w → Within (more d v) (more d w)
more_within (along a1) h = omega arith
more_within (along a2) h = omega arith
more_within (along a3) h = omega arith
more_within diagonal h = omega arith

append-within : (ds es : List Direction) → Within (multiplicities_of ds) (multiplicities_of (ds ++ es))
append-within [] es = let p = order-positive es in omega arith
append-within (d ∷ ds) es = more_within d (append-within ds es)

width-within : {v w : Multiplicities} → Within v w → (b : Axis) → width v b ≤ width w b
width-within {v} {w} h b =
    let p : degree v * extent v b ≤ degree w * extent w b = mul-le-mul (omega arith) (sides b) in
    omega arith
  where
    sides : (b : Axis) → extent v b ≤ extent w b
    sides a1 = omega arith
    sides a2 = omega arith
    sides a3 = omega arith

prefix-within : (order : List ℕ) (t : ℕ)
    → Within (order_multiplicities (take t order)) (order_multiplicities order)
prefix-within order t =
    subst (λ (ds : List Direction). Within (order_multiplicities (take t order)) (multiplicities_of ds))
    (sym (map-append direction (take t order) (drop t order)) ∙ ap (map direction) (take-append-drop t order))
    (append-within (map direction (take t order)) (map direction (drop t order)))

-- the box of an order's first t bytes has at most the places of the order's
pub prefix-places : (order : List ℕ) (t : ℕ) → order_places (take t order) ≤ order_places order
prefix-places order t =
    let h = prefix-within order t in
    box-le (width-within h a1) (width-within h a2) (width-within h a3)

-- and at most those of the first t + 1 bytes'
pub prefix-next : (order : List ℕ) (t : ℕ) → order_places (take t order) ≤ order_places (take (t + 1) order)
prefix-next order t =
    subst (λ (o : List ℕ). order_places o ≤ order_places (take (t + 1) order))
    (take-take t (t + 1) order (omega arith))
    (prefix-places (take (t + 1) order) t)

-- ---- the numbers of an order's net, and what a slice holds

-- a slice with the net of an order in its first places
abbrev pub net_over : List ℕ → List ℕ → List ℕ
net_over order s = filled (order_number order) (order_places order) s

module _ (order : List ℕ) where
  -- no number of a net that at most 8 repeats build is above 9!
  pub order-at-most : length order ≤ 8 → (q : Place) → order_net order q ≤ 362880
  order-at-most h q =
      let ds = map direction order in
      let m = order-degree ds in
      let l = length-map order direction in
      le_trans (order_le ds q) (factorial-nine (degree (order_multiplicities order)) (omega arith))

  order-outside : (q : Place) (b : Axis) → High (order_width order b) (q b) → order_net order q ≡ 0
  order-outside q b h =
      let v = order_multiplicities order in
      (order-high (map direction order)).zero_high q b
      (high-mono (order_width order b) (degree v * extent v b) (q b) (omega arith) h)

  -- a slice that holds the net reads as the net
  pub spread-order : (s : List ℕ) → take (order_places order) s ≡ net_list (order_width order) (order_net order)
      → spread (order_width order) s ≡ order_net order
  spread-order s =
      spread-list (order_width order) s (order_net order) (order-low (map direction order)) order-outside

-- The repeats of an order: the halves of each leave what the laws of `net` say, from a slice that a build of
-- the bytes before it has filled; so do those of all bytes in turn.
use mathlib.Core.List.{List}
use mathlib.Core.Path.{◌∙◌, ◌≡◌, ap, ap₂, subst, sym}
use Prim.Native.Nat.{◌+◌, ◌<◌, ◌≤◌, ℕ}
use native.Mathlib.Nat.{le_trans}
use native.Mathlib.Omega.{arith}
use lib.IntN.{pos, ℤ}
use lib.ListN.{get_or, length, take}
use lib.Seq.{get_or-take, length-take-le}
use Rattle.sums.proofs.Places.{index_in}
use Rattle.sums.proofs.Search.{first-nowhere, nowhere-first}
use Rattle.sums.specs.Fill.{filled}
use Rattle.spline.proofs.Box.{place_of-index}
use Rattle.spline.specs.Box.{index, net_list, place_of, places}
use Rattle.spline.specs.Build.{order_net}
use Rattle.spline.specs.Multiplicities.{degree, more}
use Rattle.spline.specs.Place.{Axis, Place, a1, a2, a3, place}
use Rattle.shape.proofs.Shapes.{shape-widths}
use Rattle.differences.specs.Pass.{difference}
use Rattle.claims_halves.specs.Halves.{FirstHalf, HalvesInTurn, Repeat, RepeatsInTurn, SecondHalf}
use Rattle.claims_halves.specs.Halves.{before, between, direction_at, net_after, net_before, new_width}
use Rattle.edges.specs.Lines.{edge_sum}
use Rattle.orders.proofs.Accepted.{BuildAccepted, build-accepted, build-passes}
use Rattle.builds.proofs.OrderNets.{net_over, prefix-places}
use Rattle.builds.proofs.Repeats.{all-taken}
use Rattle.builds.proofs.TakenUp.{entry, summed, taken-up}
use Rattle.builds.specs.Build.{build_net}
use Rattle.orders.specs.Inner.GoodOrder.{GoodOrder}
use Rattle.orders.specs.Order.{bad_byte, build_checks}
use Rattle.builds.specs.Repeat.{net_repeated, work_between}
use Rattle.checks.specs.Checks.{no_refusal}

-- the first k bytes of a good order are a good order
prefix-good : (order : List ℕ) (k : ℕ) → k ≤ length order → GoodOrder order → GoodOrder (take k order)
prefix-good order k l good =
    record {
      short = omega (arith, length-take-le k order l, good.short);
      good = nowhere-first _ (length (take k order)) (λ i h.
          let e : i < k = omega (arith, length-take-le k order l) in
          ap bad_byte (get_or-take k order i 0 e)
          ∙ first-nowhere (λ j. bad_byte (get_or order j 0)) (length order) good.good i (omega arith));
    }

module _ (order net : List ℕ) (work : List ℤ)
    (h : build_checks order (length net) (length work) ≡ no_refusal) where
  abbrev room : BuildAccepted order (length net) (length work)
  room = build-accepted order (length net) (length work) h

  -- a build of the first k bytes is not refused either
  passes : (k : ℕ) → k ≤ length order → build_checks (take k order) (length net) (length work) ≡ no_refusal
  passes k l =
      build-passes (take k order) (length net) (length work)
      (record {
        good = prefix-good order k l room.good;
        net-room = le_trans (prefix-places order k) room.net-room;
        work-room = le_trans (prefix-places order k) room.work-room;
      })

  -- and it fills the box of their net
  fills : (k : ℕ) → k ≤ length order
      → build_net (take k order) net (length work) ≡ net_over (take k order) net
  unfolding build_net filled net_list
  fills k l = simp (passes k l)

-- ---- one byte

module _ (order net : List ℕ) (work : List ℤ) (t : ℕ) (r : Repeat order net work t) where
  abbrev a : BuildAccepted order (length net) (length work)
  a = room order net work r.accepted

  -- what a build of the bytes before has left
  found : net_before order net work t ≡ net_over (take t order) net
  found = fills order net work r.accepted t (omega (arith, r.byte))

  module _ (x y z : ℕ) (lx : x < new_width order t a1) (ly : y < new_width order t a2)
      (lz : z < new_width order t a3) where
    abbrev W : Axis → ℕ
    W = new_width order t

    abbrev q : Place
    q = place (pos x) (pos y) (pos z)

    within_box : index W x y z < places W
    within_box = index_in (W a1) (W a2) (W a3) x y z lx ly lz

    at_place : place_of W (index W x y z) ≡ q
    at_place = place_of-index W x y z lx ly

    -- the first half at a place of the new box
    first-at : get_or (between order net work t) (index W x y z) (pos 0)
        ≡ difference (direction_at order t) (degree (before order t)) (order_net (take t order)) q
    first-at =
        ap (λ (n : List ℕ). get_or (work_between (direction_at order t) (before order t) n work) (index W x y z)
        (pos 0)) found
        ∙ entry order a.good t r.byte net work a.net-room a.work-room _ within_box
        ∙ ap (difference (direction_at order t) (degree (before order t)) (order_net (take t order))) at_place

    -- and the second
    second_at : pos (get_or (net_after order net work t) (index W x y z) 0)
        ≡ edge_sum (direction_at order t) W (between order net work t) q
    second_at =
        let d = direction_at order t in
        let v = before order t in
        subst (λ (n : List ℕ). pos (get_or (net_repeated d v n work) (index W x y z) 0)
        ≡ edge_sum d W (work_between d v n work) q) (sym found)
        (summed order a.good t r.byte net work a.net-room a.work-room _ within_box
        ∙ ap₂ (λ (w : Axis → ℕ). edge_sum d w (work_between d v (net_over (take t order) net) work))
        (shape-widths (more d v)) at_place)

pub first-half : FirstHalf
first-half = first-at

pub second-half : SecondHalf
second-half = second_at

pub halves-in-turn : HalvesInTurn
halves-in-turn order net work t r =
    let h = r.accepted in
    let b = room order net work h in
    ap (λ (n : List ℕ). net_repeated (direction_at order t) (before order t) n work) (found order net work t r)
    ∙ taken-up order b.good t r.byte net work b.net-room b.work-room
    ∙ sym (fills order net work h (t + 1) (omega (arith, r.byte)))

-- ---- all of them

pub repeats-in-turn : RepeatsInTurn
unfolding build_net filled net_list
repeats-in-turn order net work h =
    let b = room order net work h in
    simp h (all-taken order b.good net b.net-room work b.work-room)

-- One byte taken up: the halves of its repeat make the net of the order with this byte of the net before it.
use mathlib.Core.List.{List, map}
use mathlib.Core.Path.{◌∙◌, ◌≡◌, ap, refl, subst, sym}
use Prim.Native.Nat.{◌+◌, ◌<◌, ◌≤◌, ℕ}
use native.Mathlib.Nat.{le_refl, le_trans}
use native.Mathlib.Omega.{arith}
use lib.IntN.{◌-ℤ◌, nat_abs, pos, ℤ}
use lib.ListN.{get_or, length, length-map, take}
use lib.Seq.{length-take-le}
use Rattle.sums.proofs.Fill.{filled_at, filled-cong, length-filled, refill, take-filled}
use Rattle.sums.proofs.Signed.{abs_diff}
use Rattle.sums.proofs.Words.{signed-small, word_small}
use Rattle.sums.specs.Fill.{filled}
use Rattle.sums.specs.Word.{signed_word, word}
use Rattle.spline.proofs.Multiplicities.{order-degree}
use Rattle.spline.proofs.OrderNet.{order-low}
use Rattle.spline.specs.Box.{net_list, place_of, places, spread, width}
use Rattle.spline.specs.Build.{direction, order_net}
use Rattle.spline.specs.Multiplicities.{Multiplicities, degree, more, order_multiplicities}
use Rattle.spline.specs.Place.{Axis, Direction, Net, Place, a1, a2, a3, along, diagonal}
use Rattle.shape.proofs.Shapes.{limits-boxed, shape-widths}
use Rattle.shape.specs.Inner.Boxes.{Boxed}
use Rattle.shape.specs.Shape.{shape_of, widths}
use Rattle.shape.specs.declared.Shape.{Shape}
use Rattle.differences.proofs.PassFits as First
use Rattle.differences.specs.Pass.{difference, differences_of, index_difference}
use Rattle.summations.proofs.PassFits as Second
use Rattle.summations.specs.Pass.{line_number, sums_of}
use Rattle.edges.specs.Lines.{edge_sum}
use Rattle.orders.proofs.Orders.{length-next, multiplicities-next, prefix-limits}
use Rattle.builds.proofs.OrderNets.{net-next, net_over, order-at-most, prefix-next}
use Rattle.builds.proofs.OrderNets.{prefix-places, spread-order}
use Rattle.builds.proofs.Telescope.{edge-sum-at}
use Rattle.orders.specs.Inner.GoodOrder.{GoodOrder}
use Rattle.orders.specs.Order.{order_number, order_places, order_width}
use Rattle.builds.specs.Repeat.{net_repeated, work_between}

-- A repeat sums the differences that its first half took. By cases, so that a definition which is wrong in
-- one direction is refused there.
pub in-turn : (d : Direction) (v : Multiplicities) (net : List ℕ) (work : List ℤ)
    → net_repeated d v net work ≡ sums_of d (shape_of (more d v)) net (work_between d v net work)
in-turn (along a1) v net work = refl
in-turn (along a2) v net work = refl
in-turn (along a3) v net work = refl
in-turn diagonal v net work = refl

-- a difference of net numbers is far from what 32 bits hold
diff-small : (a b : ℕ) → a ≤ 362880 → b ≤ 362880 → nat_abs (pos a -ℤ pos b) ≤ 2147483647
diff-small a b ha hb = omega (arith, abs_diff (pos a) (pos b))

-- byte t of an order
module _ (o : List ℕ) (good : GoodOrder o) (t : ℕ) (l : t < length o) where
  abbrev d : Direction
  d = direction (get_or o t 0)

  abbrev v : Multiplicities
  v = order_multiplicities (take t o)

  -- the net of the bytes before it
  abbrev G : Net
  G = order_net (take t o)

  abbrev old : Shape
  old = shape_of v

  abbrev new : Shape
  new = shape_of (more d v)

  -- the widths of the new box
  abbrev W : Axis → ℕ
  W = widths new

  next : more d v ≡ order_multiplicities (take (t + 1) o)
  next = sym (multiplicities-next o t l)

  new-widths : W ≡ order_width (take (t + 1) o)
  new-widths = shape-widths (more d v) ∙ ap width next

  -- ---- the two boxes

  room : (n k : ℕ) (s : Shape) → widths s ≡ order_width (take k o) → order_places o ≤ n → places (widths s) ≤ n
  room n k s e h = subst (λ (W : Axis → ℕ). places W ≤ n) (sym e) (le_trans (prefix-places o k) h)

  boxes : (k : ℕ) (w : Multiplicities) → w ≡ order_multiplicities (take k o) → k ≤ length o → Boxed (shape_of w)
  boxes k w e h = limits-boxed w (prefix-limits o k 12 w e h (omega (arith, good.short)))

  degree_most : degree v ≤ 8
  degree_most =
      omega (
        arith,
        order-degree (map direction (take t o)),
        length-map (take t o) direction,
        length-take-le t o (omega arith),
        good.short,
      )

  -- the net slice holds what the bytes before it build
  module _ (base : List ℕ) (work : List ℤ)
      (base-room : order_places o ≤ length base) (work-room : order_places o ≤ length work) where
    abbrev net : List ℕ
    net = net_over (take t o) base

    net-room : order_places o ≤ length net
    net-room =
        omega (
          arith,
          length-filled (order_number (take t o)) _ base (le_trans (prefix-places o t) base-room),
          base-room,
        )

    reads : spread (widths old) net ≡ G
    unfolding net_list
    reads =
        ap (λ (W : Axis → ℕ). spread W net) (shape-widths v)
        ∙ spread-order (take t o) net
        (take-filled (order_number (take t o)) _ _ base (le_refl (order_places (take t o))))

    new-room : (n : ℕ) → order_places o ≤ n → places W ≤ n
    new-room n = room n (t + 1) new new-widths

    abbrev between : List ℤ
    between = work_between d v net work

    -- ---- the first half

    abbrev written : ℕ → ℤ
    written = index_difference d (degree v) (widths old) net W

    -- it passes its own checks, and writes the differences
    first-writes : between ≡ filled written (places W) work
    unfolding differences_of
    first-writes =
        simp (First.facts-fit old new (length net) (length work)
        (record {
          boxed = boxes t v refl (omega arith);
          degree = degree_most;
          held = room (length net) t old (shape-widths v) net-room;
        })
        (boxes (t + 1) (more d v) next (omega arith)) (new-room (length work) work-room))

    -- none of which is cut
    pub entry : (i : ℕ) → i < places W
        → get_or between i (pos 0) ≡ difference d (degree v) G (place_of W i)
    entry i r =
        let q = place_of W i in
        let small : (p : Place) → G p ≤ 362880
        = order-at-most (take t o) (omega (arith, length-take-le t o (omega arith), good.short)) in
        ap (λ (w : List ℤ). get_or w i (pos 0)) first-writes
        ∙ filled_at written (places W) work i (pos 0) r
        ∙ ap (λ (H : Net). signed_word (word (difference d (degree v) H q))) reads
        ∙ signed-small (difference d (degree v) G q) (diff-small _ _ (small _) (small _))

    -- ---- the second half

    -- from the box's edge the differences sum to the numbers of the next net
    edge-sums : (i : ℕ) → i < places W
        → edge_sum d W between (place_of W i) ≡ pos (order_net (take (t + 1) o) (place_of W i))
    edge-sums i r =
        edge-sum-at d (degree v) G (order-low (map direction (take t o))) W between entry i r
        ∙ ap (λ (C : Net). pos (C (place_of W i))) (sym (net-next o t l))

    number : (i : ℕ) → i < places W
        → line_number d W between i ≡ order_net (take (t + 1) o) (place_of W i)
    number i r =
        let q = place_of W i in
        let few = order-at-most (take (t + 1) o) (omega (arith, length-next o t l, good.short)) q in
        ap word (edge-sums i r) ∙ word_small (order_net (take (t + 1) o) q) (omega (arith, few))

    -- it passes its own checks, and writes these numbers
    second-writes : sums_of d new net between ≡ filled (line_number d W between) (places W) net
    unfolding sums_of
    second-writes =
        simp (Second.facts-fit new (length net) (length between)
        (boxes (t + 1) (more d v) next (omega arith)) (new-room (length net) net-room)
        (new-room (length between) (omega (arith, First.differences-length d old new net work))))

    -- so both lead to the net of the order with this byte
    pub taken-up : net_repeated d v net work ≡ net_over (take (t + 1) o) base
    taken-up =
        let C = order_net (take (t + 1) o) in
        in-turn d v net work
        ∙ second-writes
        ∙ filled-cong _ (λ i. C (place_of W i)) (places W) net number
        ∙ ap (λ (W : Axis → ℕ). filled (λ i. C (place_of W i)) (places W) net) new-widths
        ∙ refill (order_number (take (t + 1) o)) (order_number (take t o)) _ _ base (prefix-next o t)

    -- each of its numbers is the sum of the differences on its line, from the box's edge
    pub summed : (i : ℕ) → i < places W
        → pos (get_or (net_repeated d v net work) i 0) ≡ edge_sum d W between (place_of W i)
    summed i r =
        ap (λ (s : List ℕ). pos (get_or s i 0)) taken-up
        ∙ ap pos (filled_at (order_number (take (t + 1) o)) (order_places (take (t + 1) o)) base i 0 within_box)
        ∙ ap (λ (W : Axis → ℕ). pos (order_net (take (t + 1) o) (place_of W i))) (sym new-widths)
        ∙ sym (edge-sums i r)
      where
        within_box : i < order_places (take (t + 1) o)
        within_box = subst (λ (W : Axis → ℕ). i < places W) new-widths r

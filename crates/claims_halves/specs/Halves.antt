-- The two halves of a repeat, each as closed statements: Section 14.11.
use Rattle.std.specs.Prelude.{List, ◌↔◌, ◌≡◌, ◌+◌, ◌<◌, ◌≤◌, suc, zero, ℕ, negsuc, pos, ℤ, get_or, length}
use Rattle.std.specs.Prelude.{take}
use Rattle.spline.specs.Box.{index, width}
use Rattle.spline.specs.Build.{direction, order_net}
use Rattle.spline.specs.Multiplicities.{Multiplicities, degree, more, order_multiplicities}
use Rattle.spline.specs.Place.{Axis, Direction, Place, ◌⊖◌, a1, a2, a3, along, diagonal, place}
use Rattle.spline.specs.Rule.{rule_right}
use Rattle.edges.specs.Lines.{edge_sum, steps_to_edge}
use Rattle.builds.specs.Build.{build_net}
use Rattle.orders.specs.Order.{build_checks}
use Rattle.builds.specs.Repeat.{net_repeated, taken_up, work_between}
use Rattle.checks.specs.Checks.{no_refusal}

-- ---- a repeat of an order

-- a build that is not refused, and the position t of one of its order's bytes
pub record Repeat (order net : List ℕ) (work : List ℤ) (t : ℕ) : Type 0 where
  pub accepted : build_checks order (length net) (length work) ≡ no_refusal
  pub byte : t < length order

-- the direction of byte t
abbrev pub direction_at : List ℕ → ℕ → Direction
direction_at order t = direction (get_or order t 0)

-- the multiplicities of the bytes before it
abbrev pub before : List ℕ → ℕ → Multiplicities
before order t = order_multiplicities (take t order)

-- the widths of the new box
abbrev pub new_width : List ℕ → ℕ → Axis → ℕ
new_width order t = width (more (direction_at order t) (before order t))

-- the net slice before the repeat: what a build of the bytes before it leaves there
abbrev pub net_before : List ℕ → List ℕ → List ℤ → ℕ → List ℕ
net_before order net work t = build_net (take t order) net (length work)

-- the work slice between its halves, whatever it held before
abbrev pub between : List ℕ → List ℕ → List ℤ → ℕ → List ℤ
between order net work t =
    work_between (direction_at order t) (before order t) (net_before order net work t) work

-- the net slice after both
abbrev pub net_after : List ℕ → List ℕ → List ℤ → ℕ → List ℕ
net_after order net work t =
    net_repeated (direction_at order t) (before order t) (net_before order net work t) work

-- The first half gives, at every place q of the new box, on its low faces too, the right side of the rule at
-- q − d, for the net of the bytes before. Where d moves along a low face's axis, q − d is outside the box.
abbrev pub FirstHalf : Type 0
FirstHalf =
    (order net : List ℕ) (work : List ℤ) (t : ℕ) → Repeat order net work t
    → (x y z : ℕ) → x < new_width order t a1 → y < new_width order t a2 → z < new_width order t a3
    → get_or (between order net work t) (index (new_width order t) x y z) (pos 0)
    ≡ rule_right (direction_at order t) (degree (before order t)) (order_net (take t order))
    (place (pos x) (pos y) (pos z) ⊖ direction_at order t)

-- The second half gives at every place of the new box the sum of these on its line of direction d, from the
-- box's edge up to the place.
abbrev pub SecondHalf : Type 0
SecondHalf =
    (order net : List ℕ) (work : List ℤ) (t : ℕ) → Repeat order net work t
    → (x y z : ℕ) → x < new_width order t a1 → y < new_width order t a2 → z < new_width order t a3
    → pos (get_or (net_after order net work t) (index (new_width order t) x y z) 0)
    ≡ edge_sum (direction_at order t) (new_width order t) (between order net work t)
    (place (pos x) (pos y) (pos z))

-- The two in turn lead from what a build of the bytes before leaves to what one with this byte leaves, in the
-- whole net slice.
abbrev pub HalvesInTurn : Type 0
HalvesInTurn =
    (order net : List ℕ) (work : List ℤ) (t : ℕ) → Repeat order net work t
    → net_after order net work t ≡ build_net (take (t + 1) order) net (length work)

-- The halves of all bytes in turn lead from the simple net to what the build leaves, in the whole net slice.
abbrev pub RepeatsInTurn : Type 0
RepeatsInTurn =
    (order net : List ℕ) (work : List ℤ) → build_checks order (length net) (length work) ≡ no_refusal
    → (taken_up order net work).net ≡ build_net order net (length work)

-- ---- where a line begins

-- the place n steps of d before q, the n + 1st from the end of those that `line_sum` goes through
abbrev pub steps_back : Direction → ℕ → Place → Place
steps_back d zero q = q
steps_back d (suc n) q = steps_back d n (q ⊖ d)

-- a coordinate of a box of this width
abbrev pub InsideWidth : ℕ → ℤ → Type 0
InsideWidth w (pos n) = n < w
InsideWidth w (negsuc n) = ⊥

-- a place of the box
abbrev pub InsideBox : (Axis → ℕ) → Place → Type 0
InsideBox W q = (b : Axis) → InsideWidth (W b) (q b)

-- a place on the edge, where lines of d enter a box: the low face of d's axis, for direction 4 one of three
abbrev pub OnEdge : Direction → Place → Type 0
OnEdge (along a) q = q a ≡ pos 0
OnEdge diagonal q = (b : Axis) × (q b ≡ pos 0)

-- From a place q of the box, as many steps back as the sum of its line goes, and no more, lead to places of
-- the box; the last is on the edge. So the sum has every place of the line up to q, and no other.
abbrev pub LineFromEdge : Type 0
LineFromEdge =
    (d : Direction) (W : Axis → ℕ) (x y z : ℕ) → x < W a1 → y < W a2 → z < W a3
    → (let q = place (pos x) (pos y) (pos z) in
    ((n : ℕ) → InsideBox W (steps_back d n q) ↔ (n ≤ steps_to_edge d q))
    × OnEdge d (steps_back d (steps_to_edge d q) q))

-- The row's places on the edge are written first; then the others, each from the place one vector before it.
use mathlib.Core.List.{List}
use mathlib.Core.Path.{◌∙◌, ◌≡◌, ap, subst, sym}
use Prim.Native.Nat.{◌*◌, ◌+◌, ◌<◌, ◌≤◌, ℕ}
use native.Mathlib.Omega.{arith}
use lib.IntN.{ℤ}
use lib.ListN.{length}
use Rattle.sums.proofs.Fill.{length-filled, rebase-in, rebase-out}
use Rattle.sums.specs.Fill.{filled}
use Rattle.spline.specs.Box.{places}
use Rattle.spline.specs.Build.{direction}
use Rattle.spline.specs.Place.{Axis, Direction, a1, a2, a3}
use Rattle.shape.specs.Shape.{widths}
use Rattle.shape.proofs.Rows.{row-bounds, row_within}
use Rattle.edges.proofs.RowEdges.{OnEdge, on_edge}
use Rattle.edges.specs.EdgeWidth.{edge_width}
use Rattle.shape.specs.Direction.{vector_of}
use Rattle.summations.proofs.LineRows.{along-sums, back_low, back_one, back_some, back_of}
use Rattle.summations.proofs.LineRows.{edge-sums, first-place, rest-sums, vector-small}
use Rattle.summations.specs.Inner.Rows.{RowSums, none, places_back}
use Rattle.summations.specs.Pass.{line_number}
use Rattle.shape.specs.declared.Vector.{Vector}
use Rattle.summations.proofs.row.sum_row.Goals as goal
use Rattle.summations.proofs.row.sum_row.Goals.{Start}

module _ (s : Start) where
  abbrev d : Direction
  d = direction s.args.d

  abbrev W : Axis → ℕ
  W = widths s.args.s

  abbrev y : ℕ
  y = s.args.y

  abbrev z : ℕ
  z = s.args.z

  abbrev work : List ℤ
  work = s.args.work.now

  abbrev net : List ℕ
  net = s.args.net.now

  abbrev row : ℕ
  row = W a1 * (y + W a2 * z)

  abbrev f : ℕ → ℕ
  f = line_number d W work

  bounds : (W a2 * z ≤ 8281) × (row ≤ 761852)
  bounds = row-bounds y z (W a1) (W a2) (omega arith) (omega arith) (omega arith) (omega arith)

  inside : row + W a1 ≤ places W
  inside = omega (arith, row_within (W a1) (W a2) (W a3) y z s.requires.boxed.1 s.requires.boxed.2)

  -- the direction's vector is known
  module _ {v : Vector} (ev : v ≡ vector_of d) where
    v-le : (v.x ≤ 1) × (v.y ≤ 1) × (v.z ≤ 1)
    v-le = vector-small d v ev

    v-bounds : (W a2 * v.z ≤ 8281) × (W a1 * (v.y + W a2 * v.z) ≤ 761852)
    v-bounds =
        row-bounds v.y v.z (W a1) (W a2)
        (omega (arith, v-le)) (omega (arith, v-le)) (omega arith) (omega arith)

    back_is : 1 ≤ back_of W v
    back_is =
        subst (λ (t : Vector). 1 ≤ back_of W t) (sym ev) (back_some d W (omega arith) (omega arith))

    -- along the row the vector is one place long
    one : s.args.d ≡ 1 → back_of W v ≡ 1
    one h = back_one W v s.args.d ev h

    -- how many places of the row are on the edge is known
    module _ {n : ℕ} (en : n ≡ edge_width v (W a1) y z) where
      edge : OnEdge v (W a1) y z n
      edge = on_edge v (W a1) y z n (omega (arith, v-le, s.requires.boxed.0.least1)) en

      abbrev edge_row : RowSums none row (row + n) work net
      edge_row = record {
        number = f;
        start = s.requires.net_value;
        sums = edge-sums d W work y z s.requires.boxed.1 n v ev edge;
      }

      low : row + n ≤ row + W a1
      low = omega (arith, edge.most)

      back-before : row + n < row + W a1 → back_of W v ≤ row + n
      back-before = back_low d W work y z s.requires.boxed.1 n v ev edge

      -- the places on the edge are written
      module _ {net₁ : List ℕ} (entered : net₁ ≡ filled f (row + n) net) where
        room₁ : row + W a1 ≤ length net₁
        room₁ =
            let kept = length-filled f (row + n) net (omega (arith, low, inside, s.requires.s_in_bounds.0)) in
            omega (arith, inside, s.requires.s_in_bounds.0, ap length entered ∙ kept)

        abbrev rest : RowSums (places_back (back_of W v)) (row + n) (row + W a1) work net₁
        rest = record {
          number = f;
          start = rebase-in f net net₁ (row + n) entered;
          sums = rest-sums d W work y z s.requires.boxed.1 n v ev edge;
        }

        abbrev along-rest : s.args.d ≡ 1 → RowSums (places_back 1) (row + n) (row + W a1) work net₁
        along-rest h = record {
          number = f;
          start = rebase-in f net net₁ (row + n) entered;
          sums = along-sums d W work y z s.requires.boxed.1 n v ev edge (one h);
        }

        done : (r : List ℕ) → r ≡ filled f (row + W a1) net₁ → r ≡ filled f (W a1 * (y + 1 + W a2 * z)) net
        done r h =
            let k : row + W a1 ≡ W a1 * (y + 1 + W a2 * z) = omega arith in
            rebase-out f net net₁ (row + n) entered r (row + W a1) low h
            ∙ ap (λ (i : ℕ). filled f i net) k

pub overflow_mul-a : goal.overflow_mul-a
overflow_mul-a c = omega (arith, bounds (goal.at.overflow_mul-a c).Start)

pub overflow_add-a : goal.overflow_add-a
overflow_add-a c = omega (arith, bounds (goal.at.overflow_add-a c).Start)

pub overflow_mul-a-2 : goal.overflow_mul-a-2
overflow_mul-a-2 c = omega (arith, bounds (goal.at.overflow_mul-a-2 c).Start)

pub overflow_add-b : goal.overflow_add-b
overflow_add-b c =
    let q = (goal.at.overflow_add-b c).Start in
    omega (arith, bounds q, (edge q c.vector_of-v.ensures c.edge_width.ensures.width).most)

pub overflow_add-e : goal.overflow_add-e
overflow_add-e c = omega (arith, bounds (goal.at.overflow_add-e c).Start)

pub sum_edge-requires : goal.sum_edge-requires
sum_edge-requires c =
    let q = (goal.at.sum_edge-requires c).Start in
    let most = low q c.vector_of-v.ensures c.edge_width.ensures.width in
    let rooms = c.requires.s_in_bounds in
    (omega arith, omega (arith, most, inside q, rooms.0), omega (arith, most, inside q, rooms.1))

pub sum_along-requires : goal.sum_along-requires
sum_along-requires c =
    let q = (goal.at.sum_along-requires c).Start in
    let v = c.vector_of-v.ensures in
    let n = c.edge_width.ensures.width in
    let h : c.args.d ≡ 1 = omega arith in
    let i = row q + c.edge_width.result in
    let back : i < row q + W q a1 → 1 ≤ i = λ l. omega (arith, one q v h, back-before q v n l) in
    let some = first-place i (row q + W q a1) (omega (arith, q.requires.boxed.0.least1)) back in
    let entered = c.sum_edge.ensures (edge_row q v n) in
    (some, low q v n, room₁ q v n entered, omega (arith, inside q, c.requires.s_in_bounds.1))

pub returns-then-d-eq1 : goal.returns-then-d-eq1
returns-then-d-eq1 c =
    let q = (goal.at.returns-then-d-eq1 c).Start in
    let v = c.vector_of-v.ensures in
    let n = c.edge_width.ensures.width in
    let h : c.args.d ≡ 1 = omega arith in
    let entered = c.sum_edge.ensures (edge_row q v n) in
    done q v n entered _ (c.sum_along.ensures (along-rest q v n entered h))

pub overflow_mul-w2 : goal.overflow_mul-w2
overflow_mul-w2 c = omega (arith, v-bounds (goal.at.overflow_mul-w2 c).Start c.vector_of-v.ensures)

pub overflow_add-v : goal.overflow_add-v
overflow_add-v c =
    let q = (goal.at.overflow_add-v c).Start in
    omega (arith, v-bounds q c.vector_of-v.ensures, v-le q c.vector_of-v.ensures)

pub overflow_mul-w1 : goal.overflow_mul-w1
overflow_mul-w1 c = omega (arith, v-bounds (goal.at.overflow_mul-w1 c).Start c.vector_of-v.ensures)

pub overflow_add-v-2 : goal.overflow_add-v-2
overflow_add-v-2 c =
    let q = (goal.at.overflow_add-v-2 c).Start in
    omega (arith, v-bounds q c.vector_of-v.ensures, v-le q c.vector_of-v.ensures)

pub sum_back-requires : goal.sum_back-requires
sum_back-requires c =
    let q = (goal.at.sum_back-requires c).Start in
    let v = c.vector_of-v.ensures in
    let n = c.edge_width.ensures.width in
    let entered = c.sum_edge.ensures (edge_row q v n) in (
      back_is q v,
      back-before q v n,
      low q v n,
      room₁ q v n entered,
      omega (arith, inside q, c.requires.s_in_bounds.1),
    )

pub returns : goal.returns
returns c =
    let q = (goal.at.returns c).Start in
    let v = c.vector_of-v.ensures in
    let n = c.edge_width.ensures.width in
    let entered = c.sum_edge.ensures (edge_row q v n) in
    done q v n entered _ (c.sum_back.ensures (rest q v n entered))

-- The rows of the second half.
use mathlib.Core.List.{List}
use mathlib.Core.Logic.{◌⊎◌}
use mathlib.Core.Path.{◌∙◌, ◌≡◌, ap, ap₂, subst, sym}
use Prim.Native.Nat.{◌*◌, ◌+◌, ◌-◌, ◌<◌, ◌≤◌, suc, zero, ℕ}
use native.Mathlib.Nat.{mul-le-mul_right}
use native.Mathlib.Omega.{arith}
use lib.IntN.{+ℤ_idl, ◌+ℤ◌, pos, ℤ}
use lib.ListN.{get_or}
use Rattle.sums.proofs.Words.{word-add}
use Rattle.sums.specs.Word.{word}
use Rattle.spline.proofs.Box.{place_of-index}
use Rattle.spline.specs.Box.{index, place_of}
use Rattle.spline.specs.Build.{direction}
use Rattle.spline.specs.Place.{Axis, Direction, Place, a1, a2, a3, place}
use Rattle.shape.proofs.Directions.{component-le, component-some}
use Rattle.edges.proofs.EdgeSums.{edge-inside, edge-outside}
use Rattle.edges.proofs.RowEdges.{OnEdge}
use Rattle.edges.specs.Lines.{edge_sum}
use Rattle.summations.specs.Pass.{line_number}
use Rattle.shape.specs.Direction.{component, vector_of}
use Rattle.shape.specs.declared.Vector.{Vector}

-- ---- the row (y, z)
-- the index of a place is that of the place one vector before it, and the vector's own
index-split : (w1 w2 x y z c1 c2 c3 : ℕ) → c1 ≤ x → c2 ≤ y → c3 ≤ z
    → x - c1 + w1 * (y - c2 + w2 * (z - c3)) + (c1 + w1 * (c2 + w2 * c3)) ≡ x + w1 * (y + w2 * z)
index-split w1 w2 x y z c1 c2 c3 h1 h2 h3 =
    let ex : x ≡ x - c1 + c1 = omega arith in
    let ey : y ≡ y - c2 + c2 = omega arith in
    let ez : z ≡ z - c3 + c3 = omega arith in
    ring w1 w2 (x - c1) (y - c2) (z - c3) c1 c2 c3
    ∙ sym (ap₂ (λ (a b : ℕ). a + w1 * b) ex (ap₂ (λ (a b : ℕ). a + w2 * b) ey ez))
  where
    ring : (w1 w2 x y z c1 c2 c3 : ℕ)
        → x + w1 * (y + w2 * z) + (c1 + w1 * (c2 + w2 * c3)) ≡ x + c1 + w1 * (y + c2 + w2 * (z + c3))
    ring w1 w2 x y z c1 c2 c3 = omega arith

-- no component of a direction's vector exceeds 1
pub vector-small : (d : Direction) (v : Vector) → v ≡ vector_of d → (v.x ≤ 1) × (v.y ≤ 1) × (v.z ≤ 1)
vector-small d v e = rw e (component-le d a1, component-le d a2, component-le d a3)

-- how many places the number one vector before is back
abbrev pub back_of : (Axis → ℕ) → Vector → ℕ
back_of W v = v.x + W a1 * (v.y + W a2 * v.z)

-- that is at least one place
pub back_some : (d : Direction) (W : Axis → ℕ) → 1 ≤ W a1 → 1 ≤ W a2 → 1 ≤ back_of W (vector_of d)
back_some d W p1 p2 =
    let a : 1 * component d a3 ≤ W a2 * component d a3 = mul-le-mul_right (component d a3) p2 in
    let rows : ℕ = component d a2 + W a2 * component d a3 in
    let b : 1 * rows ≤ W a1 * rows = mul-le-mul_right rows p1 in
    omega (arith, component-some d)

-- along a row it is one place
pub back_one : (W : Axis → ℕ) (v : Vector) (k : ℕ) → v ≡ vector_of (direction k) → k ≡ 1 → back_of W v ≡ 1
back_one W v k ev ek =
    let e : v ≡ vector_of (direction 1) = ev ∙ ap (λ (n : ℕ). vector_of (direction n)) ek in
    rw e (omega arith)

-- a range that ends past 0, and begins past 0 unless it is empty, begins past 0
pub first-place : (a e : ℕ) → 1 ≤ e → (a < e → 1 ≤ a) → 1 ≤ a
first-place zero e l h = h l
first-place (suc a) e l h = omega arith

module _ (d : Direction) (W : Axis → ℕ) (s : List ℤ) (y z : ℕ) (hy : y < W a2) where
  abbrev row : ℕ
  row = W a1 * (y + W a2 * z)

  -- the number at an index is the sum of the number n and the entry there
  abbrev IsSum : ℕ → ℕ → Type 0
  IsSum n i = line_number d W s i ≡ word (pos n +ℤ get_or s i (pos 0))

  -- the place x of the row
  module _ (x : ℕ) (hx : x < W a1) where
    at_place : edge_sum d W s (place_of W (x + row)) ≡ edge_sum d W s (place (pos x) (pos y) (pos z))
    at_place = ap (edge_sum d W s) (place_of-index W x y z hx hy)

    -- where the step back leaves the box
    sum-outside : (x < component d a1) ⊎ (y < component d a2) ⊎ (z < component d a3) → IsSum 0 (x + row)
    sum-outside h =
        ap word
        (at_place
        ∙ edge-outside d W s x y z h
        ∙ sym (+ℤ_idl (get_or s (x + row) (pos 0))))

    -- where it stays in the box
    module _ (k1 : component d a1 ≤ x) (k2 : component d a2 ≤ y) (k3 : component d a3 ≤ z) where
      abbrev before : ℕ
      before = index W (x - component d a1) (y - component d a2) (z - component d a3)

      abbrev place-before : Place
      place-before = place (pos (x - component d a1)) (pos (y - component d a2)) (pos (z - component d a3))

      split : before + back_of W (vector_of d) ≡ x + row
      split = index-split (W a1) (W a2) x y z (component d a1) (component d a2) (component d a3) k1 k2 k3

      is-before : x + row - back_of W (vector_of d) ≡ before
      is-before = omega (arith, split)

      sum-before : edge_sum d W s (place_of W before) ≡ edge_sum d W s place-before
      sum-before =
          ap (edge_sum d W s)
          (place_of-index W (x - component d a1) (y - component d a2) (z - component d a3)
          (omega arith) (omega arith))

      sum_inside : IsSum (line_number d W s (x + row - back_of W (vector_of d))) (x + row)
      sum_inside =
          rw is-before
          (ap word (at_place ∙ edge-inside d W s x y z k1 k2 k3)
          ∙ ap (λ (t : ℤ). word (t +ℤ get_or s (x + row) (pos 0))) (sym sum-before)
          ∙ sym (word-add (edge_sum d W s (place_of W before)) (get_or s (x + row) (pos 0))))

  -- the row's first n places are on the edge
  module _ (n : ℕ) (v : Vector) (ev : v ≡ vector_of d) (edge : OnEdge v (W a1) y z n) where
    -- the number at each of these is what is kept of its entry
    pub edge-sums : (i : ℕ) → row ≤ i → i < row + n → IsSum 0 i
    edge-sums i low high =
        let e : i - row + row ≡ i = omega arith in
        subst (IsSum 0) e
        (sum-outside (i - row) (omega (arith, edge.most)) (rw ev at (edge.leaves (i - row) (omega arith))))

    -- the step back from the place x of the row, past these, stays in the box
    stays : (x : ℕ) → n ≤ x → x < W a1 → (component d a1 ≤ x) × (component d a2 ≤ y) × (component d a3 ≤ z)
    stays x l h = rw ev at (edge.stays x l h)

    -- the net has a place so many places before the first of them
    pub back_low : row + n < row + W a1 → back_of W v ≤ row + n
    back_low l =
        let k = stays n (omega arith) (omega arith) in
        rw ev (omega (arith, split n (omega arith) k.0 k.1 k.2))

    -- the number at each is the sum of the number there and its entry
    pub rest-sums : (i : ℕ) → row + n ≤ i → i < row + W a1 → IsSum (line_number d W s (i - back_of W v)) i
    rest-sums i low high =
        let e : i - row + row ≡ i = omega arith in
        let k = stays (i - row) (omega arith) (omega arith) in
        rw ev (subst (λ (t : ℕ). IsSum (line_number d W s (t - back_of W (vector_of d))) t) e
        (sum_inside (i - row) (omega arith) k.0 k.1 k.2))

    -- along a row it is the number before
    pub along-sums : back_of W v ≡ 1 → (i : ℕ) → row + n ≤ i → i < row + W a1
        → IsSum (line_number d W s (i - 1)) i
    along-sums one i low high =
        subst (λ (t : ℕ). IsSum (line_number d W s (i - t)) i) one (rest-sums i low high)

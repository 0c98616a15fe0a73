-- The rows of the first half.
use mathlib.Core.Bool.{Bool, cond, false, true}
use mathlib.Core.List.{List}
use mathlib.Core.Path.{◌∙◌, ◌≡◌, ap, ap₂, refl, sym}
use Prim.Native.Nat.{◌%◌, ◌*◌, ◌+◌, ◌-◌, ◌/◌, ◌<◌, ◌≤◌, suc, ℕ}
use native.Mathlib.Nat.{div-le_self, le_trans, mul-le-mul, mul-le-mul_left}
use native.Mathlib.Omega.{arith}
use lib.Dec.{ltb}
use lib.IntN.{pos, sub_ℕ, ℤ}
use lib.ListN.{length, set}
use Rattle.sums.proofs.Fill.{fill-store}
use Rattle.sums.specs.Fill.{filled}
use Rattle.spline.proofs.Box.{place_of-index}
use Rattle.spline.specs.Box.{spread}
use Rattle.spline.specs.Build.{direction}
use Rattle.spline.specs.Place.{Axis, Direction, Place, a1, a2, a3, along, diagonal, moves, place}
use Rattle.spline.specs.Rule.{lower_above}
use Rattle.shape.proofs.Directions.{component-le}
use Rattle.cells.proofs.RunningCells.{remainder_is, whole}
use Rattle.differences.proofs.NearPlaces.{difference-near, pivot, pivot-le, pivot-others}
use Rattle.differences.proofs.NearPlaces.{reaches, step_of, sub-near}
use Rattle.cells.specs.Coordinates.{cell_of, lowered_coordinate, near_coordinate, pivot_of}
use Rattle.differences.specs.Inner.Rows.{SmallCell, along_difference, between, low_in, step_difference}
use Rattle.differences.specs.Pass.{difference, index_difference, wrapped}
use Rattle.shape.specs.Direction.{component, vector_of}
use Rattle.cells.specs.declared.Cell.{Cell}
use Rattle.shape.specs.declared.Vector.{Vector}

-- ---- a turn of a loop over a row
-- the difference at the next place, stored there
pub fills-next : (f : ℕ → ℤ) (work₀ work : List ℤ) (i x : ℕ) (v : ℤ)
    → work ≡ filled f (i + x) work₀ → i + x < length work₀ → v ≡ f (i + x)
    → set work (i + x) v ≡ filled f (i + (x + 1)) work₀
fills-next f work₀ work i x v h l e =
    let k : i + x + 1 ≡ i + (x + 1) = omega arith in
    ap (λ (w : List ℤ). set w (i + x) v) h
    ∙ fill-store f (i + x) work₀ v l e
    ∙ ap (λ (n : ℕ). filled f n work₀) k

-- ---- the row (y, z)
-- a lowered coordinate from its cell, for the pivot p
abbrev pub low_of : ℕ → Cell → ℕ
low_of p c = c.base + lower_above p c.u

cell-lowered : (g p n : ℕ) (c : Cell) → c ≡ cell_of g n → low_of p c ≡ lowered_coordinate g p n
unfolding lowered_coordinate
cell-lowered g p n c e = ap (low_of p) e

-- c is the cell of the coordinate n on the axis b, as it is shifted for the direction d
abbrev pub IsCell : Direction → ℕ → Axis → ℕ → Cell → Type 0
IsCell d g b n c = c ≡ cell_of g (n + g * component d b)

module _ (d : Direction) (b : Axis) (g : ℕ) where
  -- it begins as the code has it
  pub cell-first : (c : Cell) (step : ℕ) → step ≡ component d b → c ≡ cell_of g (cond (ltb 0 step) g 0)
      → IsCell d g b 0 c
  cell-first c step es e = e ∙ ap (cell_of g) (ap (λ (t : ℕ). cond (ltb 0 t) g 0) es ∙ from (moves d b))
    where
      from : (h : Bool) → cond (ltb 0 (cond h 1 0)) g 0 ≡ 0 + g * cond h 1 0
      from true = omega arith
      from false = omega arith

  -- and runs along as the code has it
  pub cell-next : (c r : Cell) (n : ℕ) → IsCell d g b n c → ((k : ℕ) → c ≡ cell_of g k → r ≡ cell_of g (k + 1))
      → IsCell d g b (n + 1) r
  cell-next c r n e next =
      let k : n + g * component d b + 1 ≡ n + 1 + g * component d b = omega arith in
      next (n + g * component d b) e ∙ ap (cell_of g) k

module _ (d : Direction) (g : ℕ) (W : Axis → ℕ) (s : List ℕ) (W' : Axis → ℕ) (y z : ℕ) (hy : y < W' a2) where
  abbrev row : ℕ
  row = W' a1 * (y + W' a2 * z)

  -- the lowered coordinates one step before the place x of the row
  abbrev near : ℕ → ℕ → Axis → ℕ
  near x c b = near_coordinate g (pivot d g x y z) (g * component d b) c

  -- the difference at the place x of the row
  at_place : (x : ℕ) → x < W' a1
      → index_difference d g W s W' (row + x)
      ≡ step_difference W s (step_of d g) (near x x a1) (near x y a2) (near x z a3)
  at_place x hx =
      let e : row + x ≡ x + row = omega arith in
      ap (index_difference d g W s W') e
      ∙ ap (λ (q : Place). wrapped (difference d g (spread W s) q)) (place_of-index W' x y z hx hy)
      ∙ sym (difference-near d g W s x y z)

-- ---- a row of another direction than 1
-- where the direction moves along the first axis, the pivot is the highest remainder at the row's first place
first-low : (d : Direction) (g y z : ℕ) → g * component d a1 ≤ pivot d g 0 y z
first-low (along a1) g y z = omega (arith, remainder_is g 0 (g * 1) (omega arith) (0 + g * 1) (omega arith))
first-low (along a2) g y z = omega arith
first-low (along a3) g y z = omega arith
first-low diagonal g y z = omega arith

-- a vector g times
abbrev pub scaled : ℕ → Vector → Vector
scaled g v = record { x = g * v.x; y = g * v.y; z = g * v.z }

-- what the code computes there: the pivot p is a remainder, no step leads below the lowered coordinates, and
-- the differences are those of two rows
pub record Across (d : Direction) (g : ℕ) (W : Axis → ℕ) (s : List ℕ) (W' : Axis → ℕ) (y z : ℕ) (v : Vector)
    (cy cz : Cell) (p : ℕ) : Type 0 where
  pub most : p ≤ g
  pub low_x : g * v.x ≤ p
  pub low_y : g * v.y ≤ low_of p cy
  pub low_z : g * v.z ≤ low_of p cz
  pub numbers : (x : ℕ) → x < W' a1 → index_difference d g W s W' (W' a1 * (y + W' a2 * z) + x)
      ≡ step_difference W s (scaled g v) (near_coordinate g p (g * v.x) x) (low_of p cy - g * v.y)
      (low_of p cz - g * v.z)

-- the code's vector, cells and pivot are such
pub across : (k g : ℕ) (W : Axis → ℕ) (s : List ℕ) (W' : Axis → ℕ) (y z : ℕ) → y < W' a2 → (k ≡ 1 → ⊥)
    → (v : Vector) → v ≡ vector_of (direction k)
    → (cy cz : Cell) → IsCell (direction k) g a2 y cy → IsCell (direction k) g a3 z cz
    → (p : ℕ) → p ≡ pivot_of (direction k) 0 cy.u cz.u g → Across (direction k) g W s W' y z v cy cz p
across k g W s W' y z hy n1 v ev cy cz ey ez p ep = record {
  most = rw (pivot-is 0) (pivot-le d g 0 y z);
  low_x = rw (ev, pivot-is 0) (first-low d g y z);
  low_y = rw (ev, at_y, pivot-is 0) (reaches d g 0 y z a2);
  low_z = rw (ev, at-z, pivot-is 0) (reaches d g 0 y z a3);
  numbers = λ x hx. at_place d g W s W' y z hy x hx ∙ rw (ev, at_y, at-z, pivot-is x) refl;
}
  where
    d : Direction
    d = direction k

    at_y : low_of p cy ≡ lowered_coordinate g p (y + g * component (direction k) a2)
    at_y = cell-lowered g p (y + g * component (direction k) a2) cy ey

    at-z : low_of p cz ≡ lowered_coordinate g p (z + g * component (direction k) a3)
    at-z = cell-lowered g p (z + g * component (direction k) a3) cz ez

    pivot-is : (x : ℕ) → p ≡ pivot (direction k) g x y z
    pivot-is x =
        let u : ℕ = (x + g * component (direction k) a1) % suc g in
        ep
        ∙ pivot-others k u cy.u cz.u g n1
        ∙ ap₂ (λ (a b : Cell). pivot_of (direction k) u a.u b.u g) ey ez

-- ---- a row of direction 1
module _ (k g : ℕ) (W : Axis → ℕ) (s : List ℕ) (W' : Axis → ℕ) (y z : ℕ) (hy : y < W' a2) (one : k ≡ 1)
    (cy cz : Cell) (ey : IsCell (direction k) g a2 y cy) (ez : IsCell (direction k) g a3 z cz) where
  -- a coordinate that the direction does not move along
  still : (p q : ℕ) (b : Axis) (c : Cell) → component (along a1) b ≡ 0 → IsCell (direction k) g b q c
      → near_coordinate g p (g * component (along a1) b) q ≡ low_of p c
  still p q b c e ec =
      let n = ap (λ (t : ℕ). lowered_coordinate g p (q + g * component (direction t) b)) one in
      let f : g * component (along a1) b ≡ 0 = rw e (omega arith) in
      omega (arith, cell-lowered g p (q + g * component (direction k) b) c ec, n)

  no_step : (p : ℕ) (c : Cell) → sub_ℕ (low_of p c) (g * 0) ≡ low_in p c
  no_step p c = sub-near (low_of p c) (g * 0) (low_of p c) (omega arith)

  -- the difference at the place x of the row, from the cells of y and z
  pub line-difference : (x : ℕ) → x < W' a1
      → index_difference (direction k) g W s W' (W' a1 * (y + W' a2 * z) + x)
      ≡ along_difference g W s cy cz x
  line-difference x hx =
      let u : ℕ = (x + g) % suc g in
      let e1 : g * 1 ≡ g = omega arith in
      let a : ℕ = near_coordinate g u g x in
      let near : ℕ → ℕ → ℕ → ℕ = λ t m n. near_coordinate g ((x + t) % suc g) m n in
      let first : ℕ → Vector = λ t. record { x = t; y = g * 0; z = g * 0 } in
      let here : Place = place (pos a) (low_in u cy) (low_in u cz) in
      ap (λ (n : ℕ). index_difference (direction n) g W s W' (W' a1 * (y + W' a2 * z) + x)) one
      ∙ at_place (along a1) g W s W' y z hy x hx
      ∙ ap (λ (t : ℕ). step_difference W s (first t) (near t t x) (near t (g * 0) y) (near t (g * 0) z)) e1
      ∙ ap₂ (step_difference W s (first g) a) (still u y a2 cy refl ey) (still u z a3 cz refl ez)
      ∙ ap₂ (λ (b c : ℤ). between W s here (place (sub_ℕ a g) b c)) (no_step u cy) (no_step u cz)

-- ---- sizes
product-bound : (g x m : ℕ) → g ≤ 8 → x ≤ 100 → g * (x / m) ≤ 800
product-bound g x m hg hx = mul-le-mul hg (le_trans (div-le_self x m) hx)

-- a step along an axis is at most the degree
step_small : (d : Direction) (b : Axis) (g : ℕ) → g * component d b ≤ g
step_small d b g = let h : g * component d b ≤ g * 1 = mul-le-mul_left g (component-le d b) in omega arith

-- the cells of the places of a box are small
pub cell-small : (d : Direction) (b : Axis) (g q : ℕ) (c : Cell) → g ≤ 8 → q ≤ 91 → IsCell d g b q c
    → SmallCell c
cell-small d b g q c hg hq e =
    let n : ℕ = q + g * component d b in
    let k : c.base ≡ g * (n / suc g) = ap (λ (t : Cell). t.base) e in
    let u : c.u ≡ n % suc g = ap (λ (t : Cell). t.u) e in
    record {
      base = omega (arith, product-bound g n (suc g) hg (omega (arith, step_small d b g)));
      remainder = omega (arith, (whole g n).1);
    }

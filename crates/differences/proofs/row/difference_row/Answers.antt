-- A row of direction 1 is written along itself, one of another direction from two rows of the older box; both
-- give the differences of its places.
use mathlib.Core.List.{List}
use mathlib.Core.Path.{◌∙◌, ◌≡◌, ap, ap₂, sym}
use Prim.Native.Nat.{◌*◌, ◌+◌, ◌-◌, ◌<◌, ◌≤◌, ℕ}
use native.Mathlib.Nat.{mul-le-mul}
use native.Mathlib.Omega.{arith}
use lib.IntN.{ℤ}
use lib.ListN.{length}
use Rattle.sums.specs.Fill.{filled}
use Rattle.spline.proofs.Lowering.{lower_above-le}
use Rattle.spline.specs.Build.{direction}
use Rattle.spline.specs.Place.{Axis, Direction, a1, a2, a3}
use Rattle.shape.proofs.Directions.{component-le}
use Rattle.shape.proofs.Rows.{row-bounds, row_within}
use Rattle.shape.specs.Direction.{component, vector_of}
use Rattle.shape.specs.Shape.{widths}
use Rattle.shape.specs.declared.Vector.{Vector}
use Rattle.differences.proofs.DifferenceRows.{Across, IsCell, across, cell-small}
use Rattle.differences.proofs.DifferenceRows.{line-difference, scaled}
use Rattle.cells.specs.Coordinates.{near_coordinate}
use Rattle.differences.specs.Inner.Rows.{SmallCell, step_difference}
use Rattle.differences.specs.Pass.{index_difference}
use Rattle.cells.specs.declared.Cell.{Cell}
use Rattle.differences.proofs.row.difference_row.Goals as goal
use Rattle.differences.proofs.row.difference_row.Goals.{After-pivot-p, Start}

module _ (s : Start) where
  abbrev g : ℕ
  g = s.args.old.m

  abbrev d : Direction
  d = direction s.args.d

  abbrev y : ℕ
  y = s.args.y

  abbrev z : ℕ
  z = s.args.z

  abbrev old : Axis → ℕ
  old = widths s.args.old

  abbrev new : Axis → ℕ
  new = widths s.args.new

  abbrev net : List ℕ
  net = s.args.net.now

  abbrev row : ℕ
  row = new a1 * (y + new a2 * z)

  abbrev f : ℕ → ℤ
  f = index_difference d g old net new

  bounds : (new a2 * z ≤ 8281) × (row ≤ 761852)
  bounds = row-bounds y z (new a1) (new a2) (omega arith) (omega arith) (omega arith) (omega arith)

  abbrev cy : Cell
  cy = s.args.cy

  abbrev cz : Cell
  cz = s.args.cz

  is_y : IsCell d g a2 y cy
  is_y = s.requires.cy_value.0

  is-z : IsCell d g a3 z cz
  is-z = s.requires.cy_value.1

  low_y : y < new a2
  low_y = s.requires.y_lt_w2.0

  small-y : SmallCell cy
  small-y = cell-small d a2 g y cy s.requires.growing.0.degree (omega arith) is_y

  small-z : SmallCell cz
  small-z = cell-small d a3 g z cz s.requires.growing.0.degree (omega arith) is-z

  inside : row + new a1 ≤ length s.args.work.now
  inside =
      omega (arith, row_within (new a1) (new a2) (new a3) y z low_y s.requires.y_lt_w2.1, s.requires.growing.2)

  done : (r : List ℤ) → r ≡ filled f (row + new a1) s.args.work.now
      → r ≡ filled f (new a1 * (y + 1 + new a2 * z)) s.args.work.now
  done r h =
      let k : row + new a1 ≡ new a1 * (y + 1 + new a2 * z) = omega arith in
      h ∙ ap (λ (i : ℕ). filled f i s.args.work.now) k

-- in another direction than 1 the vector is known, and its steps are small
step_fits : (g k : ℕ) → g ≤ 8 → (v : Vector) → v ≡ vector_of (direction k)
    → (g * v.x ≤ 8) × (g * v.y ≤ 8) × (g * v.z ≤ 8)
step_fits g k degree v e =
    let le : (b : Axis) → g * component (direction k) b ≤ 8 =
    λ b. mul-le-mul {n₂ = 8} {m₂ = 1} degree (component-le (direction k) b) in
    rw e (le a1, le a2, le a3)

-- and so is the pivot
module _ (c : After-pivot-p) where
  abbrev p : ℕ
  p = c.pivot-p.result

  facts : Across (direction c.args.d) c.args.old.m (widths c.args.old) c.args.net.now (widths c.args.new)
      c.args.y c.args.z c.vector_of-v.result c.args.cy c.args.cz p
  facts =
      across c.args.d c.args.old.m (widths c.args.old) c.args.net.now (widths c.args.new) c.args.y
      c.args.z c.requires.y_lt_w2.0 c.if-d-eq1.false c.vector_of-v.result c.vector_of-v.ensures c.args.cy c.args.cz
      c.requires.cy_value.0 c.requires.cy_value.1 p c.pivot-p.ensures

pub overflow_mul-i : goal.overflow_mul-i
overflow_mul-i c = omega (arith, bounds (goal.at.overflow_mul-i c).Start)

pub overflow_add-i : goal.overflow_add-i
overflow_add-i c = omega (arith, bounds (goal.at.overflow_add-i c).Start)

pub overflow_mul-i-2 : goal.overflow_mul-i-2
overflow_mul-i-2 c = omega (arith, bounds (goal.at.overflow_mul-i-2 c).Start)

pub difference_along-requires : goal.difference_along-requires
difference_along-requires c =
    let s = (goal.at.difference_along-requires c).Start in
    record { growing = c.requires.growing.0; w1_in_bounds = (inside s, small-y s, small-z s) }

pub returns-then-d-eq1 : goal.returns-then-d-eq1
returns-then-d-eq1 c =
    let s = (goal.at.returns-then-d-eq1 c).Start in
    let one : c.args.d ≡ 1 = omega arith in
    let numbers = line-difference c.args.d (g s) (old s) (net s) (new s) (y s) (z s) (low_y s) one
    (cy s) (cz s) (is_y s) (is-z s) in
    done s c.difference_along.new.work (c.difference_along.ensures (f s) numbers c.requires.work_value)

pub overflow_mul-t : goal.overflow_mul-t
overflow_mul-t c =
    omega (arith, step_fits _ c.args.d c.requires.growing.0.degree _ c.vector_of-v.ensures)

pub overflow_mul-t-2 : goal.overflow_mul-t-2
overflow_mul-t-2 c =
    omega (arith, step_fits _ c.args.d c.requires.growing.0.degree _ c.vector_of-v.ensures)

pub overflow_mul-t-3 : goal.overflow_mul-t-3
overflow_mul-t-3 c =
    omega (arith, step_fits _ c.args.d c.requires.growing.0.degree _ c.vector_of-v.ensures)

pub overflow_add-b : goal.overflow_add-b
overflow_add-b c =
    let s = (goal.at.overflow_add-b c).Start in
    omega (arith, small-y s, c.lower.ensures, lower_above-le c.pivot-p.result c.args.cy.u)

pub overflow_sub-b : goal.overflow_sub-b
overflow_sub-b c = omega (arith, c.lower.ensures, (facts (goal.at.overflow_sub-b c).After-pivot-p).low_y)

pub overflow_add-c : goal.overflow_add-c
overflow_add-c c =
    let s = (goal.at.overflow_add-c c).Start in
    omega (arith, small-z s, c.lower-2.ensures, lower_above-le c.pivot-p.result c.args.cz.u)

pub overflow_sub-c : goal.overflow_sub-c
overflow_sub-c c = omega (arith, c.lower-2.ensures, (facts (goal.at.overflow_sub-c c).After-pivot-p).low_z)

pub difference_across-requires : goal.difference_across-requires
difference_across-requires c =
    let s = (goal.at.difference_across-requires c).Start in
    let r = facts (goal.at.difference_across-requires c).After-pivot-p in
    record { growing = c.requires.growing.0; w1_in_bounds = (inside s, r.low_x, r.most) }

pub returns : goal.returns
returns c =
    let s = (goal.at.returns c).Start in
    let t : Vector = scaled (g s) c.vector_of-v.result in
    let near : ℕ → ℕ = near_coordinate (g s) c.pivot-p.result t.x in
    let at : ℕ → ℕ → ℕ → ℤ = λ x y z. step_difference (old s) (net s) t (near x) (y - t.y) (z - t.z) in
    done s c.difference_across.new.work
    (c.difference_across.ensures (f s)
    (λ x k. (facts (goal.at.returns c).After-pivot-p).numbers x k
    ∙ ap₂ (λ (m n : ℕ). at x ((cy s).base + m) ((cz s).base + n)) (sym c.lower.ensures)
    (sym c.lower-2.ensures))
    c.requires.work_value)

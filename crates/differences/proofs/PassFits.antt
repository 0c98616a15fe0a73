-- The test of a pass, and the facts that it stands for.
use mathlib.Core.Bool.{◌&&◌, and-eq-true_iff, true}
use mathlib.Core.List.{List}
use mathlib.Core.Path.{◌≡◌}
use Prim.Native.Nat.{◌≤◌, ℕ}
use native.Mathlib.Omega.{arith}
use borrow.Author.Tests.{lt-ltb, ltb-true}
use lib.Dec.{ltb}
use lib.IntN.{ℤ}
use lib.ListN.{length}
use Rattle.sums.proofs.Fill.{length-filled-if}
use Rattle.spline.specs.Box.{places}
use Rattle.spline.specs.Place.{Direction}
use Rattle.shape.proofs.Shapes.{held-limits, limits-held}
use Rattle.shape.specs.Inner.Boxes.{Boxed}
use Rattle.shape.specs.Shape.{held_in, widths}
use Rattle.shape.specs.declared.Shape.{Shape}
use Rattle.fitting.specs.Fitting.{differences_fit}
use Rattle.differences.specs.Inner.Rows.{Growing}
use Rattle.differences.specs.Pass.{differences_of, index_difference}

module _ (old new : Shape) (net_length work_length : ℕ) where
  -- where a pass fits, both boxes are within the limits, the older one can grow, and the slices hold them
  pub fits-facts : differences_fit old new net_length work_length ≡ true
      → Growing old net_length × Boxed new × (places (widths new) ≤ work_length)
  unfolding differences_fit
  fits-facts h =
      let b = (and-eq-true_iff (held_in old net_length && held_in new work_length) (ltb old.m 9)).0 h in
      let a = (and-eq-true_iff (held_in old net_length) (held_in new work_length)).0 b.0 in
      let o = held-limits old net_length a.0 in
      let n = held-limits new work_length a.1 in
      let l = ltb-true old.m 9 b.1 in
      (record { boxed = o.boxed; degree = omega arith; held = o.room }, n.boxed, n.room)

  -- and where these are so, it fits
  pub facts-fit : Growing old net_length → Boxed new → places (widths new) ≤ work_length
      → differences_fit old new net_length work_length ≡ true
  unfolding differences_fit
  facts-fit o n l =
      simp (
        limits-held old net_length o.boxed o.held,
        limits-held new work_length n l,
        lt-ltb old.m 9 (omega (arith, o.degree)),
      )

-- the pass keeps the length of the work slice
pub differences-length : (d : Direction) (old new : Shape) (net : List ℕ) (work : List ℤ)
    → length (differences_of d old new net work) ≡ length work
unfolding differences_of
differences-length d old new net work =
    length-filled-if (index_difference d old.m (widths old) net (widths new)) (places (widths new)) work
    (differences_fit old new (length net) (length work))
    (λ h. (fits-facts old new (length net) (length work) h).2)

-- The test of a pass, and the facts that it stands for.
use mathlib.Core.Bool.{and-eq-true_iff, true}
use mathlib.Core.List.{List}
use mathlib.Core.Path.{◌≡◌}
use Prim.Native.Nat.{◌≤◌, ℕ}
use lib.IntN.{ℤ}
use lib.ListN.{length}
use Rattle.sums.proofs.Fill.{length-filled-if}
use Rattle.spline.specs.Box.{places}
use Rattle.spline.specs.Place.{Direction}
use Rattle.shape.proofs.Shapes.{held-limits, limits-held}
use Rattle.shape.specs.Inner.Boxes.{Boxed}
use Rattle.shape.specs.Shape.{held_in, widths}
use Rattle.shape.specs.declared.Shape.{Shape}
use Rattle.fitting.specs.Fitting.{sums_fit}
use Rattle.summations.specs.Pass.{line_number, sums_of}

module _ (s : Shape) (net_length work_length : ℕ) where
  -- where a pass fits, the box is within the limits, and both slices hold it
  pub fits-facts : sums_fit s net_length work_length ≡ true
      → Boxed s × (places (widths s) ≤ net_length) × (places (widths s) ≤ work_length)
  unfolding sums_fit
  fits-facts h =
      let a = (and-eq-true_iff (held_in s net_length) (held_in s work_length)).0 h in
      let n = held-limits s net_length a.0 in
      (n.boxed, n.room, (held-limits s work_length a.1).room)

  -- and where these are so, it fits
  pub facts-fit : Boxed s → places (widths s) ≤ net_length → places (widths s) ≤ work_length
      → sums_fit s net_length work_length ≡ true
  unfolding sums_fit
  facts-fit b n w = simp (limits-held s net_length b n, limits-held s work_length b w)

-- the pass keeps the length of the net slice
pub sums-length : (d : Direction) (s : Shape) (net : List ℕ) (work : List ℤ)
    → length (sums_of d s net work) ≡ length net
unfolding sums_of
sums-length d s net work =
    length-filled-if (line_number d (widths s) work) (places (widths s)) net
    (sums_fit s (length net) (length work)) (λ h. (fits-facts s (length net) (length work) h).1)

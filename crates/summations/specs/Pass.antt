-- The second half of a repeat, sums of a list's entries along each line of the direction: Section 6.3.
use Rattle.std.specs.Prelude.{cond, List, ℕ, ℤ, length}
use Rattle.sums.specs.Fill.{filled}
use Rattle.sums.specs.Word.{word}
use Rattle.spline.specs.Box.{place_of, places}
use Rattle.spline.specs.Place.{Axis, Direction}
use Rattle.shape.specs.Shape.{widths}
use Rattle.shape.specs.declared.Shape.{Shape}
use Rattle.fitting.specs.Fitting.{sums_fit}
use Rattle.edges.specs.Lines.{edge_sum}

-- what the pass writes at an index: what 32 bits hold of the sum
abbrev pub line_number : Direction → (Axis → ℕ) → List ℤ → ℕ → ℕ
line_number d W work i = word (edge_sum d W work (place_of W i))

-- the net slice after the pass, which writes nothing where its parts do not fit
unfoldable pub sums_of : Direction → Shape → List ℕ → List ℤ → List ℕ
sums_of d s net work =
    cond (sums_fit s (length net) (length work))
    (filled (line_number d (widths s) work) (places (widths s)) net)
    net

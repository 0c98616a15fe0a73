-- Two lists over a box, compared place by place: Section 7.1.
use Rattle.std.specs.Prelude.{Bool, ◌&&◌, not, List, ℕ, eqb, get_or, length}
use Rattle.sums.specs.Search.{first}
use Rattle.spline.specs.Box.{places}
use Rattle.shape.specs.Shape.{held_in, widths}
use Rattle.shape.specs.declared.Shape.{Shape}
use Rattle.checks.specs.Checks.{Checked, no_refusal, refuse_at, refuse_if}
use Rattle.checks.specs.declared.Refusal.TheVariants.{Differing, NetRoom}

-- Section 7.1: the number of a net at an index is not that of f
abbrev pub differs_from : (ℕ → ℕ) → List ℕ → ℕ → Bool
differs_from f net i = not (eqb (get_or net i 0) (f i))

-- the numbers of two lists at an index differ
abbrev pub differs : List ℕ → List ℕ → ℕ → Bool
differs net defined = differs_from (λ i. get_or defined i 0) net

-- Section 7.1: 14 at the first index of the box that differs, and 4 where a list does not hold the box
unfoldable pub comparison : Shape → List ℕ → List ℕ → Checked
comparison s net defined =
    refuse_if NetRoom (not (held_in s (length net) && held_in s (length defined)))
    (refuse_at Differing (first (places (widths s)) (differs net defined)) no_refusal)

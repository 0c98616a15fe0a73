-- Gaps in the lent slices: Section 14.8.
use Rattle.std.specs.Prelude.{Bool, false, List, ◌≡◌, ◌<◌, ℕ, ℤ, length}
use Rattle.sums.specs.Fill.{number_at, signed_at}
use Rattle.spline.specs.Box.{places}
use Rattle.unit.specs.Gaps.{is_gap}
use Rattle.unit.specs.Unit.{sizes}
use Rattle.unit.specs.declared.Unit.{Unit}
use Rattle.axis_order.specs.declared.Placing.{Placing}
use Rattle.answers.specs.Live.{live_answer, live_valuing_answer}
use Rattle.answers.specs.Point.{point_answer, valuing_answer}

-- two slices of uncertainties, equally long, that differ among the first n at gaps alone
pub record DifferAtGaps (n : ℕ) (corrections : List ℤ) (us₁ us₂ : List ℕ) : Type 0 where
  pub lengths : length us₁ ≡ length us₂
  pub measured : (i : ℕ) → i < n → is_gap (signed_at corrections i) ≡ false
      → number_at us₁ i ≡ number_at us₂ i

-- The uncertainty of a gap in a lent slice changes no answer and no refusal, of a point or of a placing,
-- exact or live. So a block with uncertainties at its gaps, from a version that did not look at 16, serves as
-- the same block without them.
abbrev pub GapsUncounted : Type 0
GapsUncounted =
    (u : Unit) (net : List ℕ) (corrections : List ℤ) (us₁ us₂ : List ℕ) (flag : Bool)
    → DifferAtGaps (places (sizes u)) corrections us₁ us₂
    → ((x y z : ℤ) (D : ℕ)
    → (point_answer u net corrections us₁ x y z D ≡ point_answer u net corrections us₂ x y z D)
    × (live_answer u net corrections us₁ x y z D flag ≡ live_answer u net corrections us₂ x y z D flag))
    × ((q : Placing)
    → (valuing_answer u net corrections us₁ q ≡ valuing_answer u net corrections us₂ q)
    × (live_valuing_answer u net corrections us₁ q flag ≡ live_valuing_answer u net corrections us₂ q flag))

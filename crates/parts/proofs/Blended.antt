-- What a blending at a placing has left, as a call that sums its numbers needs it.
use mathlib.Core.List.{List}
use mathlib.Core.Path.{◌∙◌, ◌≡◌, ap}
use Prim.Native.Nat.{◌<◌, ℕ}
use native.Mathlib.Omega.{arith}
use lib.IntN.{pos, ℤ}
use lib.ListN.{get_or, length}
use Rattle.sums.proofs.Fill.{filled_at}
use Rattle.sums.specs.Fill.{number_at, signed_at}
use Rattle.spline.specs.Multiplicities.{degree}
use Rattle.checks.proofs.Checks.{then-passed}
use Rattle.unit.proofs.Limits.{net-limits}
use Rattle.unit.specs.Unit.{net_of}
use Rattle.unit.specs.declared.Unit.{Unit}
use Rattle.divisor_checks.specs.Divisor.{scale}
use Rattle.axis_order.specs.Weights.{weight_sum}
use Rattle.axis_order.specs.declared.Placing.{Placing}
use Rattle.possible.proofs.FieldTests.{placed-accepted}
use Rattle.possible.specs.Possible.{placed_checks}
use Rattle.answers.specs.Point.{fraction_at}
use Rattle.parts.proofs.Parts.{parts_are}
use Rattle.parts.specs.Parts.{BlendedSizes, fraction_of}
use Rattle.parts.specs.Weights.{Scaled}
use Rattle.parts.specs.declared.Part.{Part}
use Rattle.blended.specs.Blend.{blend_checks, Sized, blended_correction_at, blended_uncertainty_at, written_if}
use Rattle.tetrahedron.specs.LocalPlaces.{local_places}
use Rattle.blended.proofs.Answers.{all-written}
use Rattle.checks.specs.Checks.{Checked, no_refusal}

module _ (u : Unit) (net : List ℕ) (corrections : List ℤ) (uncertainties : List ℕ) where
  abbrev m : ℕ
  m = degree (net_of u)

  -- weights and numbers are within limits, and sum to N and U
  pub record Blended (q : Placing) (shifts : List ℤ) (spreads : List ℕ) : Type 0 where
    pub scaled : Scaled m q
    pub sized : BlendedSizes m (signed_at shifts) (number_at spreads)
    pub made : fraction_of m q (signed_at shifts) (number_at spreads)
        ≡ fraction_at u net corrections uncertainties q (weight_sum q)

  -- a placing that a blending lets pass has its denominator within 2^48
  pub value-scaled : (q : Placing) → blend_checks u net corrections uncertainties q ≡ no_refusal → Scaled m q
  unfolding blend_checks
  value-scaled q e =
      let placed = placed_checks u q (length net) (length corrections) (length uncertainties) in
      let a = (placed-accepted u q _ _ _ (then-passed placed _ e).0).0 in
      record {
        degree = omega (arith, (net-limits u a.unit.net_held).limits);
        some = a.possible.divisor.some;
        scaled = a.possible.divisor.scaled;
      }

  -- what is written holds the numbers
  written_at : {A : Type 0} (f : ℕ → A) (k : Checked) (d : List A) (a : A) → k ≡ no_refusal
      → (t : ℕ) → t < local_places m → get_or (written_if k f u d) t a ≡ f t
  written_at f k d a e t h =
      ap (λ l. get_or l t a) (all-written f u d e) ∙ filled_at f (local_places m) d t a h

  -- a blending that has passed its checks has left all this
  module _ {q : Placing} {k : Checked} {shifts : List ℤ} {spreads : List ℕ} (d : List ℤ) (e : List ℕ)
      (passed : k ≡ no_refusal)
      (scaled : Scaled m q)
      (shifts-are : shifts ≡ written_if k (blended_correction_at u net corrections q) u d)
      (spreads-are : spreads ≡ written_if k (blended_uncertainty_at u net uncertainties q) u e)
      (sized : Sized u net corrections uncertainties q) where
    -- what the arrays hold
    shift_is : (t : ℕ) → t < local_places m → signed_at shifts t ≡ blended_correction_at u net corrections q t
    shift_is t h =
        ap (λ (l : List ℤ). signed_at l t) shifts-are
        ∙ written_at (blended_correction_at u net corrections q) k d (pos 0) passed t h

    spread-is : (t : ℕ) → t < local_places m
        → number_at spreads t ≡ blended_uncertainty_at u net uncertainties q t
    spread-is t h =
        ap (λ (l : List ℕ). number_at l t) spreads-are
        ∙ written_at (blended_uncertainty_at u net uncertainties q) k e 0 passed t h

    pub blended : Blended q shifts spreads
    blended = record {
      scaled = scaled;
      sized = record {
        of_shifts = λ t h. rw (shift_is t h) (sized.of_corrections t h);
        of_spreads = λ t h. rw (spread-is t h) (sized.of_uncertainties t h);
      };
      made =
          ap
          (λ (s : Part). record {
            numerator = s.numerator;
            uncertainty = s.uncertainty;
            denominator = scale m (weight_sum q);
          })
          (parts_are u q net scaled.degree corrections uncertainties (signed_at shifts) (number_at spreads)
          shift_is spread-is);
    }

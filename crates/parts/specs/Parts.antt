-- Parts of the Bernstein sums, as the functions that make them promise and ask for them.
use Rattle.std.specs.Prelude.{◌*◌, ◌+◌, ◌<◌, ◌≤◌, ℕ, ◌*ℤ◌, ◌+ℤ◌, nat_abs, pos, ℤ}
use Rattle.sums.specs.Coefficient.{factorial}
use Rattle.sums.specs.Sum.{sum_to, sum_z}
use Rattle.divisor_checks.specs.Divisor.{scale}
use Rattle.axis_order.specs.Weights.{weight_sum}
use Rattle.axis_order.specs.declared.Placing.{Placing}
use Rattle.answers.specs.declared.Fraction.{Fraction}
use Rattle.parts.specs.Weights.{weight_at}
use Rattle.parts.specs.declared.Part.{Part}
use Rattle.tetrahedron.specs.LocalPlaces.{local_places}

-- a part of N and one of U
abbrev pub part : ℤ → ℕ → Part
part n u = record { numerator = n; uncertainty = u }

-- two parts together
abbrev pub add_parts : Part → Part → Part
add_parts s t = part (s.numerator +ℤ t.numerator) (s.uncertainty + t.uncertainty)

-- blended numbers times a weight
abbrev pub weighed : ℤ → ℕ → ℕ → Part
weighed shift spread w = part (shift *ℤ pos w) (spread * w)

module _ (m : ℕ) (q : Placing) (shift : ℕ → ℤ) (spread : ℕ → ℕ) where
  -- the parts of the first n local places
  unfoldable pub first_parts : ℕ → Part
  first_parts n =
      part (sum_z n (λ t. shift t *ℤ pos (weight_at m q t))) (sum_to n (λ t. spread t * weight_at m q t))

  -- the parts of all
  abbrev pub parts_to : Part
  parts_to = first_parts (local_places m)

  -- and the fraction that they make
  abbrev pub fraction_of : Fraction
  fraction_of = record {
    numerator = parts_to.numerator;
    uncertainty = parts_to.uncertainty;
    denominator = scale m (weight_sum q);
  }

-- the sizes of blended numbers where the shares add up
pub record BlendedSizes (m : ℕ) (shift : ℕ → ℤ) (spread : ℕ → ℕ) : Type 0 where
  pub of_shifts : (t : ℕ) → t < local_places m → nat_abs (shift t) ≤ 32767 * factorial m
  pub of_spreads : (t : ℕ) → t < local_places m → spread t ≤ 65535 * factorial m

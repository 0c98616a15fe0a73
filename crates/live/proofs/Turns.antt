-- A local place more in the sums that a loop keeps in floats.
use mathlib.Core.Path.{◌∙◌, ◌≡◌, ap}
use Prim.Native.Nat.{◌+◌, ◌<◌, ◌≤◌, ℕ}
use native.Mathlib.Omega.{arith}
use lib.Ieee.{Float, add, binary64, mul}
use lib.IntN.{nat_abs, pos, ℤ}
use mir.Facts.{to_z-of_z}
use mir.Syntax.{w64}
use mir.Val.{of_z, to_z}
use Rattle.sums.proofs.MachineSizes.{fits}
use Rattle.divisor_checks.specs.Divisor.{live_limit, scale}
use Rattle.axis_order.specs.Weights.{weight_sum}
use Rattle.axis_order.specs.declared.Placing.{Placing}
use Rattle.floats.proofs.Totals.{Sum, sum-one-more}
use Rattle.floats.specs.Floats.{exact, float}
use Rattle.parts.specs.Parts.{BlendedSizes}
use Rattle.parts.specs.Weights.{Scaled, weight_at}
use Rattle.live.proofs.Sizes.{most, shift-exact, shifts, spread-exact, spreads}
use Rattle.tetrahedron.specs.LocalPlaces.{local_places}

-- the sums of the first local places
module _ (m : ℕ) (q : Placing) where
  abbrev pub Numerator : (ℕ → ℤ) → Float → ℕ → Type 0
  Numerator shift = Sum (most m) shift (weight_at m q)

  abbrev pub Uncertainty : (ℕ → ℕ) → Float → ℕ → Type 0
  Uncertainty spread = Sum (most m) (λ t. pos (spread t)) (weight_at m q)

module _ {m : ℕ} {q : Placing} {shift : ℕ → ℤ} {spread : ℕ → ℕ} (scaled : Scaled m q)
    (live : scale m (weight_sum q) ≤ live_limit) (blended : BlendedSizes m shift spread) (t : ℕ)
    (h : t < local_places m) where
  -- a signed number that is handed on is read as it stands
  read : to_z w64 (of_z w64 (shift t)) ≡ shift t
  read = to_z-of_z (fits w64 (shift t) (omega (arith, shift-exact scaled live blended t h)))

  -- the blended numbers are small enough to be turned into floats
  pub sized : (nat_abs (to_z w64 (of_z w64 (shift t))) ≤ exact) × (spread t ≤ exact)
  sized = rw read (shift-exact scaled live blended t h, spread-exact scaled live blended t h)

  module _ {v x y : Float} (weight : y ≡ float (pos (weight_at m q t))) where
    -- a term more of N
    pub next-numerator : Numerator m q shift v t → x ≡ mul binary64 (float (to_z w64 (of_z w64 (shift t)))) y
        → Numerator m q shift (add binary64 v x) (t + 1)
    next-numerator sum e =
        sum-one-more (shifts scaled live blended) t h sum
        (e ∙ ap (λ (z : ℤ). mul binary64 (float z) y) read) weight

    -- and of U
    pub next-uncertainty : Uncertainty m q spread v t → x ≡ mul binary64 (float (pos (spread t))) y
        → Uncertainty m q spread (add binary64 v x) (t + 1)
    next-uncertainty sum e = sum-one-more (spreads scaled live blended) t h sum e weight

-- The Bernstein sums of the blended numbers: Section 11. The net is the number at an index, the block the
-- entry at (j1, j2, j3).
use Rattle.std.specs.Prelude.{◌*◌, ℕ, ◌*ℤ◌, pos, ℤ}
use Rattle.sums.specs.Simplex.{bernstein, sum_simplex, sum_simplex_z}
use Rattle.spline.specs.Multiplicities.{Multiplicities, degree}
use Rattle.axis_order.specs.Weights.{placing_cell}
use Rattle.axis_order.specs.declared.Placing.{Placing}
use Rattle.blended.specs.Blending.{blended_correction, blended_uncertainty, local_place}

-- Section 11.1: the weight of (b0..b3)
abbrev pub term_weight : ℕ → Placing → ℕ → ℕ → ℕ → ℕ → ℕ
term_weight m q b0 b1 b2 b3 = bernstein m q.l0 q.l1 q.l2 q.l3 b0 b1 b2 b3

-- Section 11.2: N
unfoldable pub shift_numerator : Multiplicities → (ℕ → ℕ) → (ℕ → ℕ → ℕ → ℤ) → Placing → ℤ
shift_numerator v net entry q =
    sum_simplex_z (degree v)
    (λ b0 b1 b2 b3.
    blended_correction v net entry (placing_cell q) (local_place q b1 b2 b3)
    *ℤ pos (term_weight (degree v) q b0 b1 b2 b3))

-- Section 11.2: U
unfoldable pub uncertainty_numerator : Multiplicities → (ℕ → ℕ) → (ℕ → ℕ → ℕ → ℕ) → Placing → ℕ
uncertainty_numerator v net entry q =
    sum_simplex (degree v)
    (λ b0 b1 b2 b3.
    blended_uncertainty v net entry (placing_cell q) (local_place q b1 b2 b3)
    * term_weight (degree v) q b0 b1 b2 b3)

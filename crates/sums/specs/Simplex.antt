-- Section 10.1: sums over all (b0, b1, b2, b3) with b0 + b1 + b2 + b3 = m. They are gone through as
-- 0 ≤ a3 ≤ a2 ≤ a1 ≤ m, with b0 = m − a1, b1 = a1 − a2, b2 = a2 − a3, b3 = a3.
use Rattle.std.specs.Prelude.{◌*◌, ◌-◌, ◌^◌, suc, ℕ, ℤ}
use Rattle.sums.specs.Coefficient.{multinomial}
use Rattle.sums.specs.Sum.{sum_to, sum_z}

unfoldable pub sum_simplex : ℕ → (ℕ → ℕ → ℕ → ℕ → ℕ) → ℕ
sum_simplex m f =
    sum_to (suc m) (λ a1.
    sum_to (suc a1) (λ a2.
    sum_to (suc a2) (λ a3. f (m - a1) (a1 - a2) (a2 - a3) a3)))

-- the same over ℤ
unfoldable pub sum_simplex_z : ℕ → (ℕ → ℕ → ℕ → ℕ → ℤ) → ℤ
sum_simplex_z m f =
    sum_z (suc m) (λ a1.
    sum_z (suc a1) (λ a2.
    sum_z (suc a2) (λ a3. f (m - a1) (a1 - a2) (a2 - a3) a3)))

-- Section 11.1: the Bernstein weight m!/(b0! b1! b2! b3!) × L0^b0 × L1^b1 × L2^b2 × L3^b3
unfoldable pub bernstein : ℕ → ℕ → ℕ → ℕ → ℕ → ℕ → ℕ → ℕ → ℕ → ℕ
bernstein m L0 L1 L2 L3 b0 b1 b2 b3 = multinomial m b0 b1 b2 b3 * (L0 ^ b0 * L1 ^ b1 * L2 ^ b2 * L3 ^ b3)

-- Factorials, binomial and multinomial coefficients: Section 1.4.
use Rattle.std.specs.Prelude.{◌*◌, ◌-◌, ◌/◌, suc, zero, ℕ}

-- n!
unfoldable pub factorial : ℕ → ℕ
factorial zero = 1
factorial (suc n) = suc n * factorial n

-- n! / (k! (n − k)!), for k ≤ n
unfoldable pub binomial : ℕ → ℕ → ℕ
binomial n k = factorial n / (factorial k * factorial (n - k))

-- m! / (b0! b1! b2! b3!)
unfoldable pub multinomial : ℕ → ℕ → ℕ → ℕ → ℕ → ℕ
multinomial m b0 b1 b2 b3 = factorial m / (factorial b0 * factorial b1 * factorial b2 * factorial b3)

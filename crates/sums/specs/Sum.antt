-- Finite sums over ℕ and ℤ.
use Rattle.std.specs.Prelude.{◌+◌, suc, zero, ℕ, ◌+ℤ◌, pos, ℤ}

-- f 0 + .. + f (n − 1)
unfoldable pub sum_to : ℕ → (ℕ → ℕ) → ℕ
sum_to zero f = 0
sum_to (suc n) f = sum_to n f + f n

-- the same over ℤ
unfoldable pub sum_z : ℕ → (ℕ → ℤ) → ℤ
sum_z zero f = pos 0
sum_z (suc n) f = sum_z n f +ℤ f n

-- the sum of f i1 i2 i3 over all i1 < n1, i2 < n2, i3 < n3
unfoldable pub sum_box : ℕ → ℕ → ℕ → (ℕ → ℕ → ℕ → ℕ) → ℕ
sum_box n1 n2 n3 f = sum_to n3 (λ i3. sum_to n2 (λ i2. sum_to n1 (λ i1. f i1 i2 i3)))

-- the same over ℤ
unfoldable pub sum_box_z : ℕ → ℕ → ℕ → (ℕ → ℕ → ℕ → ℤ) → ℤ
sum_box_z n1 n2 n3 f = sum_z n3 (λ i3. sum_z n2 (λ i2. sum_z n1 (λ i1. f i1 i2 i3)))

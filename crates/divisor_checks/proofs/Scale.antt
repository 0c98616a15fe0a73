-- The product m!×D^m, which the check of the divisor makes factor by factor.
use mathlib.Core.Path.{◌≡◌, refl}
use Prim.Native.Nat.{◌*◌, ◌+◌, ◌-◌, ◌≤◌, suc, zero, ℕ}
use native.Mathlib.Nat.{add-suc, add-zero, le_refl, mul-le-mul, mul-le-mul_left, pow-suc, pow-zero}
use native.Mathlib.Numerals.{add-one}
use native.Mathlib.Omega.{arith}
use Rattle.sums.proofs.Coefficient.{factorial-suc, factorial-zero}
use Rattle.divisor_checks.specs.Divisor.{scale}

-- the product of no factors
pub scale-zero : (D : ℕ) → scale 0 D ≡ 1
scale-zero D = rw (factorial-zero, pow-zero D) refl

-- one factor more
pub scale-next : (i D : ℕ) → scale (i + 1) D ≡ scale i D * ((i + 1) * D)
scale-next i D = rw (add-one i, factorial-suc i, pow-suc D i) (omega arith)

-- with D at least 1, a factor more makes it no smaller
grown : (i k D : ℕ) → 1 ≤ D → scale i D ≤ scale (i + k) D
grown i zero D h = rw (add-zero i) (le_refl (scale i D))
grown i (suc k) D h =
    let ih = grown i k D h in
    let one : 1 ≤ i + k + 1 = omega arith in
    let more = mul-le-mul_left (scale (i + k) D) (mul-le-mul one h) in
    rw (add-suc i k, ← add-one (i + k), scale-next (i + k) D) (omega arith)

-- a larger degree makes it no smaller
pub scale-le : (i m D : ℕ) → 1 ≤ D → i ≤ m → scale i D ≤ scale m D
scale-le i m D h l = let e : i + (m - i) ≡ m = omega arith in rw e at (grown i (m - i) D h)

-- The largest divisors of the degrees up to 9, each by a computed test.
use mathlib.Core.Bool.{Bool, ◌&&◌, ◌||◌, and-eq-true_iff, false, true}
use mathlib.Core.Path.{◌≡◌, refl}
use Prim.Native.Nat.{◌+◌, ◌<◌, ◌^◌, ◌≤◌, suc, zero, ℕ}
use native.Mathlib.Nat.{le_refl, le_trans, lt_of_lt_of_le, mul-le-mul, mul-le-mul_left, pow-suc, pow-zero}
use native.Mathlib.Omega.{arith}
use borrow.Author.Tests.{le-leb, leb-false, leb-true, lt-leb, ltb-true}
use lib.Dec.{leb, ltb}
use Rattle.sums.proofs.Search.{all-at}
use Rattle.sums.specs.Coefficient.{factorial}
use Rattle.sums.specs.Search.{all_to}
use Rattle.divisor_checks.specs.Divisor.{scale}
use Rattle.divisor_checks.specs.Inner.Largest.{Largest}

power-grows : (m D E : ℕ) → D ≤ E → D ^ m ≤ E ^ m
power-grows zero D E h = rw (pow-zero D, pow-zero E) (le_refl 1)
power-grows (suc m) D E h = rw (pow-suc D m, pow-suc E m) (mul-le-mul (power-grows m D E h) h)

-- a larger divisor makes the product no smaller
grows : (m D E : ℕ) → D ≤ E → scale m D ≤ scale m E
grows m D E h = mul-le-mul_left (factorial m) (power-grows m D E h)

-- a divisor L is allowed, and the next one is not or is past 4096
unfoldable pub IsLargest : ℕ → ℕ → ℕ → Bool
IsLargest most m L = leb (scale m L) most && (ltb most (scale m (L + 1)) || ltb 4095 L)

past : (most m D L : ℕ) (b : Bool) → ltb most (scale m (L + 1)) ≡ b → (b || ltb 4095 L) ≡ true
    → L < D → D ≤ 4096 → most < scale m D
past most m D L true e t h few = lt_of_lt_of_le (ltb-true _ _ e) (grows m (L + 1) D (omega (arith, h)))
past most m D L false e t h few = absurd (omega (arith, ltb-true 4095 L t, h, few))

-- a divisor is allowed exactly up to such a one
up-to-largest : (most m L D : ℕ) → IsLargest most m L ≡ true → D ≤ 4096 → leb (scale m D) most ≡ leb D L
unfolding IsLargest
up-to-largest most m L D t few =
    let both = (and-eq-true_iff (leb (scale m L) most) (ltb most (scale m (L + 1)) || ltb 4095 L)).0 t in
    by (leb-true (scale m L) most both.0) both.1 (leb D L) refl
  where
    by : scale m L ≤ most → (ltb most (scale m (L + 1)) || ltb 4095 L) ≡ true
        → (b : Bool) → leb D L ≡ b → leb (scale m D) most ≡ b
    by low next true e = le-leb (scale m D) most (le_trans (grows m D L (leb-true D L e)) low)
    by low next false e =
        lt-leb (scale m D) most
        (past most m D L (ltb most (scale m (L + 1))) refl next (leb-false D L e) few)

-- at the degree k, by one computed test
pub at-degree : (most k L m : ℕ) → IsLargest most k L ≡ true → m ≡ k → Largest most m L
at-degree most k L m t e = record { up_to = λ low D few. rw e (up-to-largest most k L D t few) }

-- at the last degree, and past it, where nothing is said
pub from-nine : (most L m : ℕ) → IsLargest most 9 L ≡ true → 9 ≤ m → Largest most m L
from-nine most L m t h = record {
  up_to = λ low D few.
      let e : m ≡ 9 = omega (arith, low, h) in
      rw e (up-to-largest most 9 L D t few);
}

-- at the degrees below n, where all divisors are allowed
pub at_low : (most n m : ℕ) → all_to n (λ k. IsLargest most k 4096) ≡ true → m < n → Largest most m 4096
at_low most n m t h = record {
  up_to = λ low D few. up-to-largest most m 4096 D (all-at n (λ k. IsLargest most k 4096) t m h) few;
}

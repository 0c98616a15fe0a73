-- A sum that a loop keeps in a float, and a turn of the loop.
use mathlib.Core.Path.{◌∙◌, ◌≡◌, ap, refl, sym}
use Prim.Native.Nat.{◌*◌, ◌+◌, ◌<◌, ◌≤◌, ℕ}
use native.Mathlib.Nat.{le_trans, mul-le-mul_left, mul-le-mul_right}
use native.Mathlib.Omega.{arith}
use lib.Ieee.{Float, add, binary64, mul, of_bits, of_int}
use lib.IntN.{◌*ℤ◌, nat_abs, pos, ℤ}
use Rattle.sums.proofs.Signed.{abs-add, abs-mul}
use Rattle.sums.proofs.Sum.{sum-next, sum-part}
use Rattle.sums.proofs.SumZ.{sum_z-next, sum_z-zero}
use Rattle.sums.specs.Sum.{sum_to, sum_z}
use Rattle.floats.proofs.Adding.{add-int}
use Rattle.floats.proofs.Whole.{Whole, int-whole, whole-mul}
use Rattle.floats.specs.Floats.{exact, float}

-- +0 as it is written is the float of 0
pub zero_is : of_bits binary64 0 ≡ float (pos 0)
unfolding of_bits of_int
zero_is = refl

-- a sum kept in a float is that sum, within a bound
pub record Total (x : Float) (z : ℤ) (B : ℕ) : Type 0 where
  pub is : x ≡ float z
  pub size : nat_abs z ≤ B

-- n numbers, of a size, that times their weights add up to 2^53 at most
pub record Summable (most n : ℕ) (f : ℕ → ℤ) (w : ℕ → ℕ) : Type 0 where
  pub some : 1 ≤ most
  pub few : most ≤ exact
  pub sized : (t : ℕ) → t < n → nat_abs (f t) ≤ most
  pub within : most * sum_to n w ≤ exact

module _ (most : ℕ) (f : ℕ → ℤ) (w : ℕ → ℕ) where
  abbrev term : ℕ → ℤ
  term t = f t *ℤ pos (w t)

  -- the sum of the first t terms
  abbrev pub Sum : Float → ℕ → Type 0
  Sum v t = Total v (sum_z t term) (most * sum_to t w)

  -- of none
  pub sum-none : Sum (of_bits binary64 0) 0
  sum-none =
      let e = sum_z-zero term in
      record { is = zero_is ∙ ap float (sym e); size = rw e (omega arith) }

module _ {most n : ℕ} {f : ℕ → ℤ} {w : ℕ → ℕ} (s : Summable most n f w) where
  module _ (t : ℕ) (l : t < n) where
    -- the bound on the sum with one term more
    next-within : most * sum_to t w + most * w t ≤ exact
    next-within =
        let e = sum-next t w in
        let p = mul-le-mul_left most (sum-part (t + 1) n w (omega arith)) in
        omega (arith, s.within, ap (λ (k : ℕ). most * k) e, p)

    term-size : nat_abs (f t) * w t ≤ most * w t
    term-size = mul-le-mul_right (w t) (s.sized t l)

    weight-size : w t ≤ exact
    weight-size = omega (arith, mul-le-mul_right (w t) s.some, next-within)

    -- a term is exact
    term-whole : Whole (mul binary64 (float (f t)) (float (pos (w t)))) (term most f w t)
    term-whole =
        whole-mul binary64 (int-whole binary64 (f t) (le_trans (s.sized t l) s.few))
        (int-whole binary64 (pos (w t)) weight-size)
        (omega (arith, term-size, next-within))

    -- and with it the sum
    pub sum-one-more : {v x y : Float} → Sum most f w v t → x ≡ mul binary64 (float (f t)) y
        → y ≡ float (pos (w t)) → Sum most f w (add binary64 v x) (t + 1)
    sum-one-more {v} {x} {y} h ex ey =
        let terms = term most f w in
        let e = sum_z-next t terms in
        let a = abs-add (sum_z t terms) (terms t) in
        let b = abs-mul (f t) (pos (w t)) in
        let made : x ≡ mul binary64 (float (f t)) (float (pos (w t)))
        = ex ∙ ap (mul binary64 (float (f t))) ey in
        record {
          is =
              rw made
              (ap (λ (u : Float). add binary64 u (mul binary64 (float (f t)) (float (pos (w t))))) h.is
              ∙ add-int binary64 (sum_z t terms) (omega (arith, h.size, next-within)) term-whole
              ∙ ap float (sym e));
          size = rw (e, sum-next t w) (omega (arith, a, b, h.size, term-size));
        }

-- Sums over all (b0, b1, b2, b3) with the sum m, and the multinomial theorem.
use mathlib.Core.Path.{◌∙◌, ◌≡◌, ap}
use Prim.Native.Nat.{◌*◌, ◌+◌, ◌-◌, ◌^◌, suc, zero, ℕ}
use native.Mathlib.Nat.{pow-succ', pow-zero, sub-zero, suc-sub-suc}
use native.Mathlib.Omega.{arith}
use lib.IntN.{◌*ℤ◌, pos, ℤ}
use Rattle.sums.proofs.Coefficient.{binomial-choose, choose, choose-over, choose-suc, choose-zero}
use Rattle.sums.proofs.Coefficient.{multinomial-binomial}
use Rattle.sums.proofs.Sum.{sum-add, sum-cong, sum_first, sum-mul, sum-suc, sum-zero}
use Rattle.sums.proofs.SumZ.{sum_z-cong, sum_z-mul, sum_z-pos}
use Rattle.sums.specs.Coefficient.{binomial}
use Rattle.sums.specs.Simplex.{bernstein, sum_simplex, sum_simplex_z}
use Rattle.sums.specs.Sum.{sum_to, sum_z}

-- ---- sums over the simplex

module _ (m : ℕ) where
  -- f at the numbers that a1, a2, a3 stand for
  abbrev parts : {A : Type 0} → (ℕ → ℕ → ℕ → ℕ → A) → ℕ → ℕ → ℕ → A
  parts f a1 a2 a3 = f (m - a1) (a1 - a2) (a2 - a3) a3

  -- only numbers with the sum m count
  pub sum_simplex_z-cong : (f g : ℕ → ℕ → ℕ → ℕ → ℤ)
      → ((b0 b1 b2 b3 : ℕ) → b0 + b1 + b2 + b3 ≡ m → f b0 b1 b2 b3 ≡ g b0 b1 b2 b3)
      → sum_simplex_z m f ≡ sum_simplex_z m g
  unfolding sum_simplex_z
  sum_simplex_z-cong f g h =
      sum_z-cong (suc m) _ _ (λ a1 l1.
      sum_z-cong (suc a1) _ _ (λ a2 l2.
      sum_z-cong (suc a2) _ _ (λ a3 l3. h (m - a1) (a1 - a2) (a2 - a3) a3 (omega arith))))

  -- a common factor
  pub sum_simplex_z-mul : (c : ℤ) (f : ℕ → ℕ → ℕ → ℕ → ℤ)
      → sum_simplex_z m (λ b0 b1 b2 b3. c *ℤ f b0 b1 b2 b3) ≡ c *ℤ sum_simplex_z m f
  unfolding sum_simplex_z
  sum_simplex_z-mul c f =
      sum_z-cong (suc m) _ _ (λ a1 l1.
      sum_z-cong (suc a1) _ _ (λ a2 l2. sum_z-mul (suc a2) c (λ a3. parts f a1 a2 a3))
      ∙ sum_z-mul (suc a1) c (λ a2. sum_z (suc a2) (λ a3. parts f a1 a2 a3)))
      ∙ sum_z-mul (suc m) c (λ a1. sum_z (suc a1) (λ a2. sum_z (suc a2) (λ a3. parts f a1 a2 a3)))

  -- a sum of naturals is a natural
  pub sum_simplex_z-pos : (f : ℕ → ℕ → ℕ → ℕ → ℕ)
      → sum_simplex_z m (λ b0 b1 b2 b3. pos (f b0 b1 b2 b3)) ≡ pos (sum_simplex m f)
  unfolding sum_simplex_z sum_simplex
  sum_simplex_z-pos f =
      sum_z-cong (suc m) _ _ (λ a1 l1.
      sum_z-cong (suc a1) _ _ (λ a2 l2. sum_z-pos (suc a2) (λ a3. parts f a1 a2 a3))
      ∙ sum_z-pos (suc a1) (λ a2. sum_to (suc a2) (λ a3. parts f a1 a2 a3)))
      ∙ sum_z-pos (suc m) (λ a1. sum_to (suc a1) (λ a2. sum_to (suc a2) (λ a3. parts f a1 a2 a3)))

-- ---- the theorem

-- one more power is one more factor
choose-theorem : (a b n : ℕ) → sum_to (suc n) (λ k. choose n k * (a ^ k * b ^ (n - k))) ≡ (a + b) ^ n
choose-theorem a b zero = rw (sum-suc, sum-zero, choose-zero) (simp pow-zero)
choose-theorem a b (suc n) =
    let ih = choose-theorem a b n in
    let f : ℕ → ℕ = λ k. choose (suc n) k * (a ^ k * b ^ (suc n - k)) in
    let g : ℕ → ℕ = λ k. choose n k * (a ^ k * b ^ (n - k)) in
    let t : ℕ → ℕ = λ k. choose n (suc k) * (a ^ suc k * b ^ (n - k)) in
    -- the terms of a power more, but for the first
    let e₁ : sum_to (suc n) (λ k. f (suc k)) ≡ sum_to (suc n) (λ k. a * g k + t k)
    = sum-cong (suc n) (λ k. f (suc k)) (λ k. a * g k + t k)
    (λ k l. rw (choose-suc n k, suc-sub-suc, pow-succ') (omega arith)) in
    let e₂ = sum-add (suc n) (λ k. a * g k) t in
    let e₃ = sum-mul (suc n) a g in
    -- those of b times the sum
    let e₄ = sum-mul (suc n) b g in
    let e₅ = sum_first n (λ k. b * g k) in
    let e₆ : sum_to n (λ k. b * g (suc k)) ≡ sum_to n t
    = sum-cong n (λ k. b * g (suc k)) t
    (λ k l. let s : n - k ≡ suc (n - suc k) = omega arith in rw (s, pow-succ' b (n - suc k)) (omega arith)) in
    let e₇ = sum-suc n t in
    let e₈ : t n ≡ 0 = rw (choose-over n (suc n) (omega arith)) (omega arith) in
    let e₉ = sum_first (suc n) f in
    let e₀ : f 0 ≡ b * g 0
    = rw (sub-zero (suc n), sub-zero n, pow-succ' b n, choose-zero n, choose-zero (suc n)) (omega arith) in
    rw (pow-succ' (a + b) n, ← ih) (omega arith)

-- the powers of a sum of two
pub binomial-theorem : (a b n : ℕ) → sum_to (suc n) (λ k. binomial n k * (a ^ k * b ^ (n - k))) ≡ (a + b) ^ n
binomial-theorem a b n =
    sum-cong (suc n) _ (λ k. choose n k * (a ^ k * b ^ (n - k)))
    (λ k l. ap (λ (x : ℕ). x * (a ^ k * b ^ (n - k))) (binomial-choose n k (omega arith)))
    ∙ choose-theorem a b n

module _ (m L0 L1 L2 L3 : ℕ) where
  -- what the sums over a2 and over a3 have as a factor
  abbrev outer : ℕ → ℕ
  outer a1 = binomial m a1 * L0 ^ (m - a1)

  abbrev middle : ℕ → ℕ → ℕ
  middle a1 a2 = outer a1 * (binomial a1 a2 * L1 ^ (a1 - a2))

  -- the Bernstein weights add up to the power of the sum: the binomial theorem, three times
  pub bernstein-sum : sum_simplex m (bernstein m L0 L1 L2 L3) ≡ (L0 + L1 + L2 + L3) ^ m
  unfolding sum_simplex bernstein
  bernstein-sum =
      sum-cong (suc m) _
      (λ a1. binomial m a1 * ((L3 + L2 + L1) ^ a1 * L0 ^ (m - a1)))
      (λ a1 l1.
      sum-cong (suc a1) _
      (λ a2. outer a1 * (binomial a1 a2 * ((L3 + L2) ^ a2 * L1 ^ (a1 - a2))))
      (λ a2 l2.
      sum-cong (suc a2) _
      (λ a3. middle a1 a2 * (binomial a2 a3 * (L3 ^ a3 * L2 ^ (a2 - a3))))
      (λ a3 l3. rw (multinomial-binomial m a1 a2 a3 (omega arith) (omega arith) (omega arith)) (omega arith))
      ∙ sum-mul (suc a2) (middle a1 a2) (λ a3. binomial a2 a3 * (L3 ^ a3 * L2 ^ (a2 - a3)))
      ∙ rw (binomial-theorem L3 L2 a2) (omega arith))
      ∙ sum-mul (suc a1) (outer a1) (λ a2. binomial a1 a2 * ((L3 + L2) ^ a2 * L1 ^ (a1 - a2)))
      ∙ rw (binomial-theorem (L3 + L2) L1 a1) (omega arith))
      ∙ binomial-theorem (L3 + L2 + L1) L0 m
      ∙ ap (λ (x : ℕ). x ^ m) (omega arith)

  -- the Bernstein sum of a constant
  pub bernstein-constant : (z : ℤ)
      → sum_simplex_z m (λ b0 b1 b2 b3. z *ℤ pos (bernstein m L0 L1 L2 L3 b0 b1 b2 b3))
      ≡ z *ℤ pos ((L0 + L1 + L2 + L3) ^ m)
  bernstein-constant z =
      sum_simplex_z-mul m z (λ b0 b1 b2 b3. pos (bernstein m L0 L1 L2 L3 b0 b1 b2 b3))
      ∙ ap (λ (x : ℤ). z *ℤ x) (sum_simplex_z-pos m (bernstein m L0 L1 L2 L3) ∙ ap pos bernstein-sum)

-- Laws of factorials, binomial and multinomial coefficients.
use mathlib.Core.Path.{◌≡◌, ap, refl, sym}
use Prim.Native.Nat.{◌*◌, ◌+◌, ◌-◌, ◌<◌, ◌≤◌, suc, zero, ℕ}
use native.Mathlib.Nat.{div-eq_of_eq-mul_left, le-add_right, mul-le-mul_left, mul-le-mul_right, mul-pos}
use native.Mathlib.Omega.{arith}
use Rattle.sums.specs.Coefficient.{binomial, factorial, multinomial}

-- ---- Pascal's rule
-- the binomial coefficient by Pascal's rule, with no division
unfoldable pub choose : ℕ → ℕ → ℕ
choose zero zero = 1
choose zero (suc k) = 0
choose (suc n) zero = 1
choose (suc n) (suc k) = choose n k + choose n (suc k)

-- there is one way to choose none
pub choose-zero : (n : ℕ) → choose n 0 ≡ 1
unfolding choose
choose-zero zero = refl
choose-zero (suc n) = refl

-- Pascal's rule
pub choose-suc : (n k : ℕ) → choose (suc n) (suc k) ≡ choose n k + choose n (suc k)
unfolding choose
choose-suc n k = refl

-- there is no way to choose more than there are
pub choose-over : (n k : ℕ) → n < k → choose n k ≡ 0
unfolding choose
choose-over zero zero h = omega arith
choose-over zero (suc k) h = refl
choose-over (suc n) zero h = omega arith
choose-over (suc n) (suc k) h =
    let a = choose-over n k (omega arith) in
    let b = choose-over n (suc k) (omega arith) in
    omega arith

choose-self : (n : ℕ) → choose n n ≡ 1
unfolding choose
choose-self zero = refl
choose-self (suc n) = let a = choose-self n in let b = choose-over n (suc n) (omega arith) in omega arith

choose-pos : (n k : ℕ) → k ≤ n → 0 < choose n k
unfolding choose
choose-pos zero zero h = omega arith
choose-pos (suc n) zero h = omega arith
choose-pos zero (suc k) h = omega arith
choose-pos (suc n) (suc k) h = let ih = choose-pos n k (omega arith) in omega arith

choose-factorial : (n i j : ℕ) → i + j ≡ n → choose n i * (factorial i * factorial j) ≡ factorial n
unfolding choose factorial
choose-factorial n zero j e =
    let c = choose-zero n in
    let s : j ≡ n = omega arith in
    omega (arith, ap factorial s, ap (λ (x : ℕ). x * (1 * factorial j)) c)
choose-factorial n (suc i) zero e =
    let e' : n ≡ suc i = omega arith in
    rw e' (let c = choose-self (suc i) in rw c (omega arith))
choose-factorial zero (suc i) (suc j) e = omega arith
choose-factorial (suc n) (suc i) (suc j) e =
    let p = choose-factorial n i (suc j) (omega arith) in
    let q = choose-factorial n (suc i) j (omega arith) in
    let s : i + j + 1 ≡ n = omega arith in
    let p' = ap (λ (x : ℕ). suc i * x) p in
    let q' = ap (λ (x : ℕ). suc j * x) q in
    let s' = ap (λ (x : ℕ). suc x * factorial n) s in
    omega arith

-- ---- factorials

-- 0! is 1
pub factorial-zero : factorial 0 ≡ 1
unfolding factorial
factorial-zero = refl

-- (n + 1)! is n + 1 times n!
pub factorial-suc : (n : ℕ) → factorial (suc n) ≡ suc n * factorial n
unfolding factorial
factorial-suc n = refl

-- none is 0
pub factorial-pos : (n : ℕ) → 0 < factorial n
unfolding factorial
factorial-pos zero = omega arith
factorial-pos (suc n) = let ih = factorial-pos n in omega arith

-- i! j! is no more than (i + j)!
pub factorial-mul-le : (i j : ℕ) → factorial i * factorial j ≤ factorial (i + j)
factorial-mul-le i j =
    let p = choose-factorial (i + j) i j refl in
    let one : 1 ≤ choose (i + j) i = choose-pos (i + j) i (le-add_right i j) in
    let m = mul-le-mul_right (factorial i * factorial j) one in
    omega arith

-- they grow
pub factorial-le : (i j : ℕ) → i ≤ j → factorial i ≤ factorial j
factorial-le i j h =
    let e : i + (j - i) ≡ j = omega arith in
    let t : factorial i * factorial (j - i) ≤ factorial j = rw e at (factorial-mul-le i (j - i)) in
    let m = mul-le-mul_left (factorial i) (factorial-pos (j - i)) in
    omega arith

-- the largest degree is 9
pub factorial-nine : (n : ℕ) → n ≤ 9 → factorial n ≤ 362880
unfolding factorial
factorial-nine n h = factorial-le n 9 h

-- ---- binomial coefficients

-- the quotient of factorials is Pascal's number
pub binomial-choose : (n k : ℕ) → k ≤ n → binomial n k ≡ choose n k
unfolding binomial
binomial-choose n k h =
    div-eq_of_eq-mul_left (mul-pos (factorial-pos k) (factorial-pos (n - k)))
    (sym (choose-factorial n k (n - k) (omega arith)))

-- the division leaves nothing over
pub binomial-factorial : (n k : ℕ) → k ≤ n → factorial n ≡ binomial n k * (factorial k * factorial (n - k))
binomial-factorial n k h = rw (binomial-choose n k h) (sym (choose-factorial n k (n - k) (omega arith)))

-- ---- multinomial coefficients

-- of parts that are differences of 0 ≤ a3 ≤ a2 ≤ a1 ≤ m, as a product of binomial coefficients
pub multinomial-binomial : (m a1 a2 a3 : ℕ) → a1 ≤ m → a2 ≤ a1 → a3 ≤ a2
    → multinomial m (m - a1) (a1 - a2) (a2 - a3) a3 ≡ binomial m a1 * (binomial a1 a2 * binomial a2 a3)
unfolding multinomial
multinomial-binomial m a1 a2 a3 h1 h2 h3 =
    let p = binomial-factorial m a1 h1 in
    let q = binomial-factorial a1 a2 h2 in
    let r = binomial-factorial a2 a3 h3 in
    let two = mul-pos (factorial-pos (m - a1)) (factorial-pos (a1 - a2)) in
    let divisor = mul-pos (mul-pos two (factorial-pos (a2 - a3))) (factorial-pos a3) in
    div-eq_of_eq-mul_left divisor (rw (p, q, r) (omega arith))

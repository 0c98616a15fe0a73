-- Laws of finite sums over ℕ.
use mathlib.Core.Logic.{⊎_elim}
use mathlib.Core.Path.{◌∙◌, ◌≡◌, ap, ap₂, refl}
use Prim.Native.Nat.{◌*◌, ◌+◌, ◌-◌, ◌<◌, ◌≤◌, suc, zero, ℕ}
use native.Mathlib.Nat.{add-suc, add-zero, le_refl, le-suc_iff}
use native.Mathlib.Numerals.{add-one}
use native.Mathlib.Omega.{arith}
use Rattle.sums.specs.Sum.{sum_box, sum_to}

-- ---- sums up to n

-- no terms
pub sum-zero : (f : ℕ → ℕ) → sum_to 0 f ≡ 0
unfolding sum_to
sum-zero f = refl

-- one term more
pub sum-suc : (n : ℕ) (f : ℕ → ℕ) → sum_to (suc n) f ≡ sum_to n f + f n
unfolding sum_to
sum-suc n f = refl

-- the same, as a loop counts
pub sum-next : (n : ℕ) (f : ℕ → ℕ) → sum_to (n + 1) f ≡ sum_to n f + f n
sum-next n f = rw (add-one n) (sum-suc n f)

-- only the terms below n count
pub sum-cong : (n : ℕ) (f g : ℕ → ℕ) → ((k : ℕ) → k < n → f k ≡ g k) → sum_to n f ≡ sum_to n g
unfolding sum_to
sum-cong zero f g h = refl
sum-cong (suc n) f g h =
    ap₂ (λ (a b : ℕ). a + b) (sum-cong n f g (λ k l. h k (omega arith))) (h n (omega arith))

-- a sum of sums
pub sum-add : (n : ℕ) (f g : ℕ → ℕ) → sum_to n (λ k. f k + g k) ≡ sum_to n f + sum_to n g
unfolding sum_to
sum-add zero f g = refl
sum-add (suc n) f g = let ih = sum-add n f g in omega arith

-- a common factor
pub sum-mul : (n c : ℕ) (f : ℕ → ℕ) → sum_to n (λ k. c * f k) ≡ c * sum_to n f
unfolding sum_to
sum-mul zero c f = omega arith
sum-mul (suc n) c f = let ih = sum-mul n c f in omega arith

-- n terms that are one number
pub sum-const : (n c : ℕ) → sum_to n (λ k. c) ≡ n * c
unfolding sum_to
sum-const zero c = omega arith
sum-const (suc n) c = let ih = sum-const n c in omega arith

-- terms that are 0
pub sum-nil : (n : ℕ) → sum_to n (λ k. 0) ≡ 0
sum-nil n = sum-const n 0 ∙ omega arith

-- the first term apart
pub sum_first : (n : ℕ) (f : ℕ → ℕ) → sum_to (suc n) f ≡ f 0 + sum_to n (λ k. f (suc k))
unfolding sum_to
sum_first zero f = omega arith
sum_first (suc n) f = let ih = sum_first n f in omega arith

-- a sum in two parts
pub sum-split : (a b : ℕ) (f : ℕ → ℕ) → sum_to (a + b) f ≡ sum_to a f + sum_to b (λ k. f (a + k))
unfolding sum_to
sum-split a zero f = rw (add-zero a) (omega arith)
sum-split a (suc b) f = rw (add-suc a b) (let ih = sum-split a b f in omega arith)

-- the last term first
pub sum-mirror : (n : ℕ) (f : ℕ → ℕ) → sum_to n (λ k. f (n - 1 - k)) ≡ sum_to n f
unfolding sum_to
sum-mirror zero f = refl
sum-mirror (suc n) f =
    let e : suc n - 1 - 0 ≡ n = omega arith in
    let rest = sum-cong n (λ k. f (suc n - 1 - suc k)) (λ k. f (n - 1 - k)) (λ k l. ap f (omega arith)) in
    sum_first n (λ k. f (suc n - 1 - k)) ∙ rw (e, rest, sum-mirror n f) (omega arith)

-- no larger term by term, no larger in all
pub sum-le : (n : ℕ) (f g : ℕ → ℕ) → ((k : ℕ) → k < n → f k ≤ g k) → sum_to n f ≤ sum_to n g
unfolding sum_to
sum-le zero f g h = le_refl 0
sum-le (suc n) f g h =
    let ih = sum-le n f g (λ k l. h k (omega arith)) in
    let t = h n (omega arith) in
    omega arith

-- a sum over fewer is no more than the sum
pub sum-part : (i n : ℕ) (f : ℕ → ℕ) → i ≤ n → sum_to i f ≤ sum_to n f
unfolding sum_to
sum-part i zero f h = let e : i ≡ 0 = omega arith in rw e (le_refl 0)
sum-part i (suc n) f h = ⊎_elim
    (λ (l : i ≤ n). let ih = sum-part i n f l in omega arith)
    (λ (e : i ≡ suc n). rw e (le_refl (sum_to n f + f n)))
    (le-suc_iff.0 h)

-- ---- sums over a box

module _ (n1 n2 n3 : ℕ) where
  -- R holds at every place of the box
  abbrev pub Inside : (ℕ → ℕ → ℕ → Type 0) → Type 0
  Inside R = (i1 i2 i3 : ℕ) → i1 < n1 → i2 < n2 → i3 < n3 → R i1 i2 i3

  -- only the places of the box count
  pub sum_box-cong : (f g : ℕ → ℕ → ℕ → ℕ) → Inside (λ i1 i2 i3. f i1 i2 i3 ≡ g i1 i2 i3)
      → sum_box n1 n2 n3 f ≡ sum_box n1 n2 n3 g
  unfolding sum_box
  sum_box-cong f g h =
      sum-cong n3 _ _ (λ i3 l3.
      sum-cong n2 _ _ (λ i2 l2.
      sum-cong n1 _ _ (λ i1 l1. h i1 i2 i3 l1 l2 l3)))

  -- the last entry of each axis first
  pub sum_box-mirror : (f : ℕ → ℕ → ℕ → ℕ)
      → sum_box n1 n2 n3 (λ i1 i2 i3. f (n1 - 1 - i1) (n2 - 1 - i2) (n3 - 1 - i3)) ≡ sum_box n1 n2 n3 f
  unfolding sum_box
  sum_box-mirror f =
      sum-cong n3 _ _ (λ i3 l3.
      sum-cong n2 _ _ (λ i2 l2. sum-mirror n1 (λ i1. f i1 (n2 - 1 - i2) (n3 - 1 - i3)))
      ∙ sum-mirror n2 (λ i2. sum_to n1 (λ i1. f i1 i2 (n3 - 1 - i3))))
      ∙ sum-mirror n3 (λ i3. sum_to n2 (λ i2. sum_to n1 (λ i1. f i1 i2 i3)))

  -- a sum of sums
  pub sum_box-add : (f g : ℕ → ℕ → ℕ → ℕ)
      → sum_box n1 n2 n3 (λ i1 i2 i3. f i1 i2 i3 + g i1 i2 i3) ≡ sum_box n1 n2 n3 f + sum_box n1 n2 n3 g
  unfolding sum_box
  sum_box-add f g =
      sum-cong n3 _ _ (λ i3 l3.
      sum-cong n2 _ _ (λ i2 l2. sum-add n1 (λ i1. f i1 i2 i3) (λ i1. g i1 i2 i3))
      ∙ sum-add n2 (λ i2. sum_to n1 (λ i1. f i1 i2 i3)) (λ i2. sum_to n1 (λ i1. g i1 i2 i3)))
      ∙ sum-add n3 (λ i3. sum_to n2 (λ i2. sum_to n1 (λ i1. f i1 i2 i3)))
      (λ i3. sum_to n2 (λ i2. sum_to n1 (λ i1. g i1 i2 i3)))

  -- terms that are one number
  pub sum_box-const : (c : ℕ) → sum_box n1 n2 n3 (λ i1 i2 i3. c) ≡ n1 * n2 * n3 * c
  unfolding sum_box
  sum_box-const c =
      let e = sum-const n3 (n2 * (n1 * c)) in
      sum-cong n3 _ _ (λ i3 l3. sum-cong n2 _ _ (λ i2 l2. sum-const n1 c) ∙ sum-const n2 (n1 * c))
      ∙ e
      ∙ omega arith

  -- terms that are 0
  pub sum_box-nil : sum_box n1 n2 n3 (λ i1 i2 i3. 0) ≡ 0
  sum_box-nil = sum_box-const 0 ∙ omega arith

-- the sum over a box of a product of three is the product of three sums
pub sum_box-product : (n1 n2 n3 : ℕ) (f g h : ℕ → ℕ)
    → sum_box n1 n2 n3 (λ i1 i2 i3. f i1 * g i2 * h i3) ≡ sum_to n1 f * sum_to n2 g * sum_to n3 h
unfolding sum_box
sum_box-product n1 n2 n3 f g h =
    sum-cong n3 _ (λ i3. sum_to n1 f * sum_to n2 g * h i3) (λ i3 l3.
    sum-cong n2 _ (λ i2. sum_to n1 f * h i3 * g i2) (λ i2 l2.
    sum-cong n1 _ (λ i1. g i2 * h i3 * f i1) (λ i1 l1. omega arith)
    ∙ sum-mul n1 (g i2 * h i3) f
    ∙ omega arith)
    ∙ sum-mul n2 (sum_to n1 f * h i3) g
    ∙ omega arith)
    ∙ sum-mul n3 (sum_to n1 f * sum_to n2 g) h

-- Laws of finite sums over ℤ, and their sizes.
use mathlib.Core.Path.{◌∙◌, ◌≡◌, ap, ap₂, refl, sym}
use Prim.Native.Nat.{◌*◌, ◌+◌, ◌-◌, ◌<◌, ◌≤◌, suc, zero, ℕ}
use native.Mathlib.Nat.{add-suc, add-zero, le_refl}
use native.Mathlib.Numerals.{add-one}
use native.Mathlib.Omega.{arith}
use lib.IntN.{*ℤ_comm, *ℤ-zero, +ℤ_assoc, +ℤ_comm, +ℤ_idl, +ℤ_idr, ◌*ℤ◌, ◌+ℤ◌, nat_abs, pos, ℤ}
use Rattle.sums.proofs.Signed.{*ℤ-+ℤ, abs-add}
use Rattle.sums.proofs.Sum.{Inside, sum-mul}
use Rattle.sums.specs.Sum.{sum_box, sum_box_z, sum_to, sum_z}

-- ---- sums up to n

-- no terms
pub sum_z-zero : (f : ℕ → ℤ) → sum_z 0 f ≡ pos 0
unfolding sum_z
sum_z-zero f = refl

-- one term more
pub sum_z-suc : (n : ℕ) (f : ℕ → ℤ) → sum_z (suc n) f ≡ sum_z n f +ℤ f n
unfolding sum_z
sum_z-suc n f = refl

-- the same, as a loop counts
pub sum_z-next : (n : ℕ) (f : ℕ → ℤ) → sum_z (n + 1) f ≡ sum_z n f +ℤ f n
sum_z-next n f = rw (add-one n) (sum_z-suc n f)

-- only the terms below n count
pub sum_z-cong : (n : ℕ) (f g : ℕ → ℤ) → ((k : ℕ) → k < n → f k ≡ g k) → sum_z n f ≡ sum_z n g
unfolding sum_z
sum_z-cong zero f g h = refl
sum_z-cong (suc n) f g h =
    ap₂ (λ (a b : ℤ). a +ℤ b) (sum_z-cong n f g (λ k l. h k (omega arith))) (h n (omega arith))

-- a common factor
pub sum_z-mul : (n : ℕ) (c : ℤ) (f : ℕ → ℤ) → sum_z n (λ k. c *ℤ f k) ≡ c *ℤ sum_z n f
unfolding sum_z
sum_z-mul zero c f = sym (*ℤ-zero c)
sum_z-mul (suc n) c f = rw (sum_z-mul n c f) (sym (*ℤ-+ℤ c (sum_z n f) (f n)))

-- the first term apart
pub sum_z-first : (n : ℕ) (f : ℕ → ℤ) → sum_z (suc n) f ≡ f 0 +ℤ sum_z n (λ k. f (suc k))
unfolding sum_z
sum_z-first zero f = +ℤ_idl (f 0) ∙ sym (+ℤ_idr (f 0))
sum_z-first (suc n) f = rw (sum_z-first n f) (+ℤ_assoc (f 0) (sum_z n (λ k. f (suc k))) (f (suc n)))

-- a sum in two parts
pub sum_z-split : (a b : ℕ) (f : ℕ → ℤ) → sum_z (a + b) f ≡ sum_z a f +ℤ sum_z b (λ k. f (a + k))
unfolding sum_z
sum_z-split a zero f = rw (add-zero a) (sym (+ℤ_idr (sum_z a f)))
sum_z-split a (suc b) f =
    rw (add-suc a b, sum_z-split a b f)
    (+ℤ_assoc (sum_z a f) (sum_z b (λ k. f (a + k))) (f (a + b)))

-- the last term first
pub sum_z-mirror : (n : ℕ) (f : ℕ → ℤ) → sum_z n (λ k. f (n - 1 - k)) ≡ sum_z n f
unfolding sum_z
sum_z-mirror zero f = refl
sum_z-mirror (suc n) f =
    let e : suc n - 1 - 0 ≡ n = omega arith in
    let rest = sum_z-cong n (λ k. f (suc n - 1 - suc k)) (λ k. f (n - 1 - k)) (λ k l. ap f (omega arith)) in
    sum_z-first n (λ k. f (suc n - 1 - k)) ∙ rw (e, rest, sum_z-mirror n f) (+ℤ_comm (f n) (sum_z n f))

-- a sum of naturals is a natural
pub sum_z-pos : (n : ℕ) (f : ℕ → ℕ) → sum_z n (λ k. pos (f k)) ≡ pos (sum_to n f)
unfolding sum_z sum_to
sum_z-pos zero f = refl
sum_z-pos (suc n) f = rw (sum_z-pos n f) refl

-- where each term's size is at most g's, the sum's is at most the sum of g
pub sum_z-abs : (n : ℕ) (f : ℕ → ℤ) (g : ℕ → ℕ) → ((k : ℕ) → k < n → nat_abs (f k) ≤ g k)
    → nat_abs (sum_z n f) ≤ sum_to n g
unfolding sum_z sum_to
sum_z-abs zero f g h = le_refl 0
sum_z-abs (suc n) f g h =
    let ih = sum_z-abs n f g (λ k l. h k (omega arith)) in
    let t = h n (omega arith) in
    let s = abs-add (sum_z n f) (f n) in
    omega arith

-- where each term is at most K times its weight, the sum is at most K times the weights' sum
pub sum_z-weighed : (n K : ℕ) (f : ℕ → ℤ) (w : ℕ → ℕ) → ((k : ℕ) → k < n → nat_abs (f k) ≤ K * w k)
    → nat_abs (sum_z n f) ≤ K * sum_to n w
sum_z-weighed n K f w h = rw (← sum-mul n K w) (sum_z-abs n f (λ k. K * w k) h)

-- ---- sums over a box

module _ (n1 n2 n3 : ℕ) where
  -- only the places of the box count
  pub sum_box_z-cong : (f g : ℕ → ℕ → ℕ → ℤ) → Inside n1 n2 n3 (λ i1 i2 i3. f i1 i2 i3 ≡ g i1 i2 i3)
      → sum_box_z n1 n2 n3 f ≡ sum_box_z n1 n2 n3 g
  unfolding sum_box_z
  sum_box_z-cong f g h =
      sum_z-cong n3 _ _ (λ i3 l3.
      sum_z-cong n2 _ _ (λ i2 l2.
      sum_z-cong n1 _ _ (λ i1 l1. h i1 i2 i3 l1 l2 l3)))

  -- the last entry of each axis first
  pub sum_box_z-mirror : (f : ℕ → ℕ → ℕ → ℤ)
      → sum_box_z n1 n2 n3 (λ i1 i2 i3. f (n1 - 1 - i1) (n2 - 1 - i2) (n3 - 1 - i3)) ≡ sum_box_z n1 n2 n3 f
  unfolding sum_box_z
  sum_box_z-mirror f =
      sum_z-cong n3 _ _ (λ i3 l3.
      sum_z-cong n2 _ _ (λ i2 l2. sum_z-mirror n1 (λ i1. f i1 (n2 - 1 - i2) (n3 - 1 - i3)))
      ∙ sum_z-mirror n2 (λ i2. sum_z n1 (λ i1. f i1 i2 (n3 - 1 - i3))))
      ∙ sum_z-mirror n3 (λ i3. sum_z n2 (λ i2. sum_z n1 (λ i1. f i1 i2 i3)))

  -- a common factor on the left
  pub sum_box_z-mul : (c : ℤ) (f : ℕ → ℕ → ℕ → ℤ)
      → sum_box_z n1 n2 n3 (λ i1 i2 i3. c *ℤ f i1 i2 i3) ≡ c *ℤ sum_box_z n1 n2 n3 f
  unfolding sum_box_z
  sum_box_z-mul c f =
      sum_z-cong n3 _ _ (λ i3 l3.
      sum_z-cong n2 _ _ (λ i2 l2. sum_z-mul n1 c (λ i1. f i1 i2 i3))
      ∙ sum_z-mul n2 c (λ i2. sum_z n1 (λ i1. f i1 i2 i3)))
      ∙ sum_z-mul n3 c (λ i3. sum_z n2 (λ i2. sum_z n1 (λ i1. f i1 i2 i3)))

  -- a common factor on the right
  pub sum_box_z-mulr : (c : ℤ) (f : ℕ → ℕ → ℕ → ℤ)
      → sum_box_z n1 n2 n3 (λ i1 i2 i3. f i1 i2 i3 *ℤ c) ≡ sum_box_z n1 n2 n3 f *ℤ c
  sum_box_z-mulr c f =
      sum_box_z-cong _ _ (λ i1 i2 i3 l1 l2 l3. *ℤ_comm (f i1 i2 i3) c)
      ∙ sum_box_z-mul c f
      ∙ *ℤ_comm c (sum_box_z n1 n2 n3 f)

  -- a sum of naturals is a natural
  pub sum_box_z-pos : (f : ℕ → ℕ → ℕ → ℕ)
      → sum_box_z n1 n2 n3 (λ i1 i2 i3. pos (f i1 i2 i3)) ≡ pos (sum_box n1 n2 n3 f)
  unfolding sum_box_z sum_box
  sum_box_z-pos f =
      sum_z-cong n3 _ _ (λ i3 l3.
      sum_z-cong n2 _ _ (λ i2 l2. sum_z-pos n1 (λ i1. f i1 i2 i3))
      ∙ sum_z-pos n2 (λ i2. sum_to n1 (λ i1. f i1 i2 i3)))
      ∙ sum_z-pos n3 (λ i3. sum_to n2 (λ i2. sum_to n1 (λ i1. f i1 i2 i3)))

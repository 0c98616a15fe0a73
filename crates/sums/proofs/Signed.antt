-- Laws of ℤ: the ring, sizes, and order, by way of differences of naturals.
use mathlib.Core.Bool.{Bool, cond, false, not, true}
use mathlib.Core.Path.{◌≡◌, ap, refl}
use Prim.Native.Nat.{◌*◌, ◌+◌, ◌-◌, ◌≤◌, suc, zero, ℕ}
use native.Mathlib.Nat.{le_refl}
use native.Mathlib.Omega.{arith}
use lib.Dec.{T, leb→le, le→leb, ltb, ltb→lt, nltb→le}
use lib.IntN.{◌*ℤ◌, ◌+ℤ◌, ◌-ℤ◌, nat_abs, negsuc, neg_ℤ, pos, sub_ℕ, ℤ}
use lib.Signed.{◌≤ℤ◌, mag}

-- the two halves of an integer: z is `up z` − `down z`
abbrev pub up : ℤ → ℕ
up (pos n) = n
up (negsuc n) = 0

-- of a negative one, what it is below 0
abbrev pub down : ℤ → ℕ
down (pos n) = 0
down (negsuc n) = suc n

-- z is a − b. Sums, products and negations of such differences are differences, so an identity of ℤ is
-- one of ℕ, which `omega` proves
pub record Is (z : ℤ) (a b : ℕ) : Type 0 where
  pub is : up z + b ≡ a + down z

-- ---- differences of naturals
-- each integer is the difference of its halves
pub own : (z : ℤ) → Is z (up z) (down z)
own z = record { is = refl }

-- a natural is the difference of itself and 0
pub is_pos : (n : ℕ) → Is (pos n) n 0
is_pos n = record { is = refl }

-- two names of one difference
pub same : {z w : ℤ} {a b c d : ℕ} → Is z a b → Is w c d → a + d ≡ c + b → z ≡ w
same {z = pos m} {w = pos n} h k e = ap pos (omega arith)
same {z = pos m} {w = negsuc n} h k e = absurd (omega arith)
same {z = negsuc m} {w = pos n} h k e = absurd (omega arith)
same {z = negsuc m} {w = negsuc n} h k e = ap negsuc (omega arith)

-- the same difference with other names
pub is-as : {z : ℤ} {a b : ℕ} (c d : ℕ) → Is z a b → a + d ≡ c + b → Is z c d
is-as c d h e = omega arith

cond-is : (t : Bool) (x y : ℤ) (a b : ℕ) → (T t → Is x a b) → (T (not t) → Is y a b) → Is (cond t x y) a b
cond-is true x y a b f g = f tt
cond-is false x y a b f g = g tt

-- ---- their subtraction, negation, sum, difference and product
-- a subtraction of naturals
pub is-sub : (a b : ℕ) → Is (sub_ℕ a b) a b
is-sub a b = cond-is (ltb a b) (negsuc (b - suc a)) (pos (a - b)) a b
    (λ t. let h = ltb→lt a b t in omega arith) (λ t. let h = nltb→le a b t in omega arith)

pub is-neg : {z : ℤ} {a b : ℕ} → Is z a b → Is (neg_ℤ z) b a
is-neg {z = pos zero} h = omega arith
is-neg {z = pos (suc n)} h = omega arith
is-neg {z = negsuc n} h = omega arith

-- a sum
pub is-add : {z w : ℤ} {a b c d : ℕ} → Is z a b → Is w c d → Is (z +ℤ w) (a + c) (b + d)
is-add {z = pos m} {w = pos n} h k = omega arith
is-add {z = pos m} {w = negsuc n} h k = is-as _ _ (is-sub m (suc n)) (omega arith)
is-add {z = negsuc m} {w = pos n} h k = is-as _ _ (is-sub n (suc m)) (omega arith)
is-add {z = negsuc m} {w = negsuc n} h k = omega arith

-- a difference
pub is-diff : {z w : ℤ} {a b c d : ℕ} → Is z a b → Is w c d → Is (z -ℤ w) (a + d) (b + c)
is-diff h k = is-add h (is-neg k)

pub is_mul : {z w : ℤ} {a b c d : ℕ} → Is z a b → Is w c d → Is (z *ℤ w) (a * c + b * d) (a * d + b * c)
is_mul {z = pos m} {w = pos n} {a = a} {b = b} {c = c} {d = d} h k =
    let p : a ≡ m + b = omega arith in
    let q : c ≡ n + d = omega arith in
    rw (p, q) (record { is = omega arith })
is_mul {z = pos m} {w = negsuc n} {a = a} {b = b} {c = c} {d = d} h k =
    let p : a ≡ m + b = omega arith in
    let q : d ≡ suc n + c = omega arith in
    rw (p, q) (is-as _ _ (is-neg (is_pos (m * suc n))) (omega arith))
is_mul {z = negsuc m} {w = pos n} {a = a} {b = b} {c = c} {d = d} h k =
    let p : b ≡ suc m + a = omega arith in
    let q : c ≡ n + d = omega arith in
    rw (p, q) (is-as _ _ (is-neg (is_pos (suc m * n))) (omega arith))
is_mul {z = negsuc m} {w = negsuc n} {a = a} {b = b} {c = c} {d = d} h k =
    let p : b ≡ suc m + a = omega arith in
    let q : d ≡ suc n + c = omega arith in
    rw (p, q) (record { is = omega arith })

-- ---- the ring's laws, each by its halves

-- a product distributes over a sum
pub *ℤ-+ℤ : (x y z : ℤ) → x *ℤ (y +ℤ z) ≡ x *ℤ y +ℤ x *ℤ z
*ℤ-+ℤ x y z = same
    (is_mul (own x) (is-add (own y) (own z)))
    (is-add (is_mul (own x) (own y)) (is_mul (own x) (own z)))
    (omega arith)

-- products can be regrouped
pub *ℤ-assoc : (x y z : ℤ) → x *ℤ y *ℤ z ≡ x *ℤ (y *ℤ z)
*ℤ-assoc x y z = same
    (is_mul (is_mul (own x) (own y)) (own z))
    (is_mul (own x) (is_mul (own y) (own z)))
    (omega arith)

-- ---- size

-- the size is both halves together
pub halves : (z : ℤ) → nat_abs z ≡ up z + down z
halves (pos n) = omega arith
halves (negsuc n) = omega arith

-- a difference of naturals that are at most B apart
pub abs-le : {z : ℤ} {a b : ℕ} (B : ℕ) → Is z a b → a ≤ b + B → b ≤ a + B → nat_abs z ≤ B
abs-le {z = pos n} B h k l = omega arith
abs-le {z = negsuc n} B h k l = omega arith

-- the size of a sum
pub abs-add : (x y : ℤ) → nat_abs (x +ℤ y) ≤ nat_abs x + nat_abs y
abs-add x y =
    let p = halves x in
    let q = halves y in
    abs-le (nat_abs x + nat_abs y) (is-add (own x) (own y)) (omega arith) (omega arith)

pub abs_neg : (z : ℤ) → nat_abs (neg_ℤ z) ≡ nat_abs z
abs_neg (pos zero) = refl
abs_neg (pos (suc n)) = refl
abs_neg (negsuc n) = refl

-- of a difference
pub abs_diff : (x y : ℤ) → nat_abs (x -ℤ y) ≤ nat_abs x + nat_abs y
abs_diff x y = omega (arith, abs-add x (neg_ℤ y), abs_neg y)

-- of a product
pub abs-mul : (x y : ℤ) → nat_abs (x *ℤ y) ≡ nat_abs x * nat_abs y
abs-mul (pos a) (pos b) = refl
abs-mul (pos a) (negsuc b) = abs_neg (pos (a * suc b))
abs-mul (negsuc a) (pos b) = abs_neg (pos (suc a * b))
abs-mul (negsuc a) (negsuc b) = refl

-- what a machine integer must hold is no more than the size
pub mag-le : (z : ℤ) → mag z ≤ nat_abs z
mag-le (pos n) = le_refl n
mag-le (negsuc n) = omega arith

-- ---- order

-- integers are ordered as the naturals that their differences compare, and the other way round
pub le_is : {x y : ℤ} {a b c d : ℕ} → Is x a b → Is y c d → a + d ≤ c + b → x ≤ℤ y
le_is {x = pos m} {y = pos n} h k l = record { le = le→leb m n (omega arith) }
le_is {x = pos m} {y = negsuc n} h k l = absurd (omega arith)
le_is {x = negsuc m} {y = pos n} h k l = record { le = tt }
le_is {x = negsuc m} {y = negsuc n} h k l = record { le = le→leb n m (omega arith) }

pub is_le : {x y : ℤ} {a b c d : ℕ} → x ≤ℤ y → Is x a b → Is y c d → a + d ≤ c + b
is_le {x = pos m} {y = pos n} l h k = let e = leb→le m n l.le in omega arith
is_le {x = pos m} {y = negsuc n} l h k = absurd l.le
is_le {x = negsuc m} {y = pos n} l h k = omega arith
is_le {x = negsuc m} {y = negsuc n} l h k = let e = leb→le n m l.le in omega arith

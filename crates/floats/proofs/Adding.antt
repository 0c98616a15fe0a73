-- Sums of floats whose values are whole numbers: a cast plus any such float, −0 too, is the cast of the sum.
use mathlib.Core.Bool.{Bool, cond, false, not, true}
use mathlib.Core.Path.{◌∙◌, ◌≡◌, ap, ap₂, refl, sym}
use Prim.Native.Nat.{◌*◌, ◌+◌, ◌-◌, ◌<◌, ◌^◌, ◌≤◌, suc, zero, ℕ}
use native.Mathlib.Nat.{add-zero, mul_comm, mul-le-mul_right, mul-lt-mul_of_pos_right, mul-one, mul-pos}
use native.Mathlib.Nat.{mul-sub, zero-lt-suc}
use native.Mathlib.Omega.{arith}
use borrow.Author.Tests.{le-ltb, lt-ltb}
use lib.Dec.{T, ltb, ltb→lt, nltb→le}
use lib.Ieee.{Float, Format, add, down, fin, inf, nan, of_int, prec, round, sum, up}
use lib.Ieee.Back.{round_whole}
use lib.Ieee.Exact.{HasValue}
use lib.Ieee.Fits.{down_pos}
use lib.Ieee.Scale.{round_same}
use lib.IntN.{+ℤ_idr, ◌+ℤ◌, nat_abs, negsuc, pos, ℤ}
use Rattle.floats.proofs.Whole.{Whole, signed}

scaled : (p a e d : ℕ) → p * 1 ≡ a * e → p * d ≡ a * (e * d)
scaled p a e d h =
    let x : p ≡ a * e = omega arith in
    rw x (omega arith)

scaled-right : (p a e d : ℕ) → p * 1 ≡ a * d → p * e ≡ a * (e * d)
scaled-right p a e d h =
    let x : p ≡ a * d = omega arith in
    rw x (omega arith)

ltb-scale : (a b c : ℕ) → 0 < c → ltb (a * c) (b * c) ≡ ltb a b
ltb-scale a b c h = go (ltb a b) (ltb→lt a b) (nltb→le a b)
  where
    go : (t : Bool) → (T t → a < b) → (T (not t) → b ≤ a) → ltb (a * c) (b * c) ≡ t
    go true l g = lt-ltb (a * c) (b * c) (mul-lt-mul_of_pos_right (l tt) h)
    go false l g = le-ltb (a * c) (b * c) (mul-le-mul_right c (g tt))

less : (a b c : ℕ) → (a * c - b * c) * 1 ≡ (a - b) * c
less a b c =
    mul-one (a * c - b * c) ∙ ap₂ (λ (p q : ℕ). p - q) (mul_comm a c) (mul_comm b c) ∙ sym (mul-sub c a b)
    ∙ mul_comm c (a - b)

-- a common factor of both summands and of the scale changes nothing
sum-scaled : (f : Format) (s t : Bool) (a b c : ℕ) → 0 < c → sum f s (a * c) t (b * c) c ≡ sum f s a t b 1
unfolding sum
sum-scaled f false false a b c h =
    round_same f false (a * c + b * c) c (a + b) 1 h (zero-lt-suc 0) (omega arith)
sum-scaled f true true a b c h =
    round_same f true (a * c + b * c) c (a + b) 1 h (zero-lt-suc 0) (omega arith)
sum-scaled f false true a b c h =
    ap₂ (λ (x y : Float). cond (ltb (a * c) (b * c)) x y)
    (round_same f true (b * c - a * c) c (b - a) 1 h (zero-lt-suc 0) (less b a c))
    (round_same f false (a * c - b * c) c (a - b) 1 h (zero-lt-suc 0) (less a b c))
    ∙ ap (λ (t : Bool). cond t (round f true (b - a) 1) (round f false (a - b) 1)) (ltb-scale a b c h)
sum-scaled f true false a b c h =
    ap₂ (λ (x y : Float). cond (ltb (a * c) (b * c)) x y)
    (round_same f false (b * c - a * c) c (b - a) 1 h (zero-lt-suc 0) (less b a c))
    (round_same f (ltb (b * c) (a * c)) (a * c - b * c) c (a - b) 1 h (zero-lt-suc 0) (less a b c))
    ∙ ap₂ (λ (t u : Bool). cond t (round f false (b - a) 1) (round f u (a - b) 1)) (ltb-scale a b c h)
    (ltb-scale b a c h)

add_at : (f : Format) (x y : Float) (s t : Bool) (a b : ℕ) → HasValue x s a 1 → HasValue y t b 1
    → add f x y ≡ sum f s a t b 1
unfolding add
add_at f nan y s t a b h k = absurd h
add_at f (inf r) y s t a b h k = absurd h
add_at f (fin r m e) nan s t a b h k = absurd k
add_at f (fin r m e) (inf u) s t a b h k = absurd k
add_at f (fin r m e) (fin u n d) s t a b h k =
    ap₂ (λ (v w : Bool). sum f v (m * up e * down d) w (n * up d * down e) (down e * down d)) h.0 k.0
    ∙ ap₂ (λ (p q : ℕ). sum f s p t q (down e * down d)) (scaled (m * up e) a (down e) (down d) h.1)
    (scaled-right (n * up d) b (down e) (down d) k.1)
    ∙ sum-scaled f s t a b (down e * down d) (mul-pos (down_pos e) (down_pos d))

-- a ± b, as `sum` and as ℤ have it
sum-pos : (f : Format) (a : ℕ) (t : Bool) (b : ℕ) → sum f false a t b 1 ≡ of_int f (pos a +ℤ signed t b)
unfolding sum of_int
sum-pos f a false b = refl
sum-pos f a true zero = rw (le-ltb a 0 (omega arith)) (ap (λ (n : ℕ). round f false n 1) (omega arith))
sum-pos f a true (suc b) = go (ltb a (suc b)) (ltb→lt a (suc b))
  where
    go : (t : Bool) → (T t → a < suc b)
        → cond t (round f true (suc b - a) 1) (round f false (a - suc b) 1)
        ≡ of_int f (cond t (negsuc (suc b - suc a)) (pos (a - suc b)))
    go true l = ap (λ (n : ℕ). round f true n 1) (let h = l tt in omega arith)
    go false l = refl

sum-neg : (f : Format) (a : ℕ) (t : Bool) (b : ℕ)
    → sum f true (suc a) t b 1 ≡ of_int f (negsuc a +ℤ signed t b)
unfolding sum of_int
sum-neg f a true zero =
    ap (λ (n : ℕ). round f true n 1) (add-zero (suc a))
    ∙ sym (ap (λ (z : ℤ). of_int f z) (+ℤ_idr (negsuc a)))
sum-neg f a true (suc b) = ap (λ (n : ℕ). round f true n 1) (omega arith)
sum-neg f a false b =
    go (ltb (suc a) b) (ltb b (suc a)) (ltb→lt (suc a) b) (nltb→le (suc a) b) (ltb→lt b (suc a))
    (nltb→le b (suc a))
  where
    go : (t u : Bool) → (T t → suc a < b) → (T (not t) → b ≤ suc a) → (T u → b < suc a)
        → (T (not u) → suc a ≤ b)
        → cond t (round f false (b - suc a) 1) (round f u (suc a - b) 1)
        ≡ of_int f (cond u (negsuc (suc a - suc b)) (pos (b - suc a)))
    go true true l g m n = absurd (let h = l tt in let k = m tt in omega arith)
    go true false l g m n = refl
    go false true l g m n = ap (λ (n : ℕ). round f true n 1) (let h = m tt in omega arith)
    go false false l g m n =
        ap (λ (n : ℕ). round f false n 1) (let h = g tt in let k = n tt in omega arith)

-- a cast, and a float that is whole, even −0: their sum is the cast of the sum
pub add-int : (f : Format) (z : ℤ) {y : Float} {w : ℤ} → nat_abs z ≤ 2 ^ prec f → Whole y w
    → add f (of_int f z) y ≡ of_int f (z +ℤ w)
unfolding of_int
add-int f (pos a) {y} {w} h k =
    add_at f (round f false a 1) y false k.sign a k.size (round_whole f false a h) k.value
    ∙ sum-pos f a k.sign k.size ∙ ap (λ (v : ℤ). of_int f (pos a +ℤ v)) k.is
add-int f (negsuc a) {y} {w} h k =
    add_at f (round f true (suc a) 1) y true k.sign (suc a) k.size (round_whole f true (suc a) h)
    k.value
    ∙ sum-neg f a k.sign k.size ∙ ap (λ (v : ℤ). of_int f (negsuc a +ℤ v)) k.is

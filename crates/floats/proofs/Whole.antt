-- Floats whose value is a whole number, −0 among them: what a cast gives, and products.
use mathlib.Core.Bool.{Bool, cond, false, true}
use mathlib.Core.Path.{◌∙◌, ◌≡◌, ap, ap₂, refl, subst, sym}
use Prim.Native.Nat.{◌*◌, ◌^◌, ◌≤◌, suc, zero, ℕ}
use native.Mathlib.Nat.{mul-pos, zero-lt-suc}
use native.Mathlib.Omega.{arith}
use lib.Dec.{T, le→leb, lt→ltb}
use lib.Ieee.{Float, Format, down, fin, in_float, inf, mul, nan, of_int, prec, round, unlike, up}
use lib.Ieee.Back.{round_whole}
use lib.Ieee.Exact.{HasValue}
use lib.Ieee.Fits.{down_pos}
use lib.Ieee.Scale.{round_same}
use lib.IntN.{◌*ℤ◌, nat_abs, negsuc, neg_ℤ, pos, ℤ}
use Rattle.sums.proofs.Signed.{Is, is_mul, is-neg, is_pos, same}

-- ±n
abbrev pub signed : Bool → ℕ → ℤ
signed false n = pos n
signed true n = neg_ℤ (pos n)

pub record Whole (x : Float) (z : ℤ) : Type 0 where
  pub sign : Bool
  pub size : ℕ
  pub value : HasValue x sign size 1
  pub is : signed sign size ≡ z

abs-signed : (s : Bool) (n : ℕ) → nat_abs (signed s n) ≡ n
abs-signed false n = refl
abs-signed true zero = refl
abs-signed true (suc n) = refl

pub whole-size : {x : Float} {z : ℤ} (h : Whole x z) → nat_abs z ≡ h.size
whole-size h = ap nat_abs (sym h.is) ∙ abs-signed h.sign h.size

-- ---- casts

-- a number that the format counts without a gap, cast, is that number
pub int-whole : (f : Format) (z : ℤ) → nat_abs z ≤ 2 ^ prec f → Whole (of_int f z) z
unfolding of_int
int-whole f (pos n) h = record { sign = false; size = n; value = round_whole f false n h; is = refl }
int-whole f (negsuc n) h =
    record { sign = true; size = suc n; value = round_whole f true (suc n) h; is = refl }

-- and the cast may be made
pub int-in : (f : Format) (z : ℤ) → nat_abs z ≤ 2 ^ prec f → T (in_float f z)
unfolding in_float
int-in f (pos n) h = le→leb n (2 ^ prec f) h
int-in f (negsuc n) h = lt→ltb n (2 ^ prec f) h

-- ---- products

cross : (p q a b e d : ℕ) → p * 1 ≡ a * e → q * 1 ≡ b * d → p * q * 1 ≡ a * b * (e * d)
cross p q a b e d h k =
    let x : p ≡ a * e = omega arith in
    let y : q ≡ b * d = omega arith in
    rw (x, y) (omega arith)

mul_at : (f : Format) (x y : Float) (s t : Bool) (a b : ℕ) → HasValue x s a 1 → HasValue y t b 1
    → mul f x y ≡ round f (unlike s t) (a * b) 1
unfolding mul
mul_at f nan y s t a b h k = absurd h
mul_at f (inf r) y s t a b h k = absurd h
mul_at f (fin r m e) nan s t a b h k = absurd k
mul_at f (fin r m e) (inf u) s t a b h k = absurd k
mul_at f (fin r m e) (fin u n d) s t a b h k =
    ap₂ (λ (v w : Bool). round f (unlike v w) (m * up e * (n * up d)) (down e * down d)) h.0 k.0
    ∙ round_same f (unlike s t) (m * up e * (n * up d)) (down e * down d) (a * b) 1
    (mul-pos (down_pos e) (down_pos d)) (zero-lt-suc 0)
    (cross (m * up e) (n * up d) a b (down e) (down d) h.1 k.1)

signed_is : (s : Bool) (n : ℕ) → Is (signed s n) (cond s 0 n) (cond s n 0)
signed_is false n = is_pos n
signed_is true n = is-neg (is_pos n)

signed_mul : (s t : Bool) (a b : ℕ) → signed (unlike s t) (a * b) ≡ signed s a *ℤ signed t b
signed_mul false false a b = refl
signed_mul false true a b =
    same (signed_is true (a * b)) (is_mul (signed_is false a) (signed_is true b)) (omega arith)
signed_mul true false a b =
    same (signed_is true (a * b)) (is_mul (signed_is true a) (signed_is false b)) (omega arith)
signed_mul true true a b =
    same (signed_is false (a * b)) (is_mul (signed_is true a) (signed_is true b)) (omega arith)

-- a product that the format counts without a gap is exact
pub whole-mul : (f : Format) {x y : Float} {z w : ℤ} → Whole x z → Whole y w
    → nat_abs z * nat_abs w ≤ 2 ^ prec f → Whole (mul f x y) (z *ℤ w)
whole-mul f {x} {y} {z} {w} h k l =
    let s = h.sign in
    let t = k.sign in
    let a = h.size in
    let b = k.size in
    let m : a * b ≤ 2 ^ prec f
    = subst (λ (n : ℕ). n ≤ 2 ^ prec f) (ap₂ (λ (p q : ℕ). p * q) (whole-size h) (whole-size k)) l in
    record {
      sign = unlike s t;
      size = a * b;
      value =
          subst (λ (v : Float). HasValue v (unlike s t) (a * b) 1)
          (sym (mul_at f x y s t a b h.value k.value))
          (round_whole f (unlike s t) (a * b) m);
      is = signed_mul s t a b ∙ ap₂ (λ (p q : ℤ). p *ℤ q) h.is k.is;
    }

-- of two casts of numbers that are not negative it is the cast of the product, with the sign of a zero too
pub mul-nat : (f : Format) (a b : ℕ) → a ≤ 2 ^ prec f → b ≤ 2 ^ prec f
    → mul f (of_int f (pos a)) (of_int f (pos b)) ≡ of_int f (pos (a * b))
unfolding of_int
mul-nat f a b h k =
    mul_at f (round f false a 1) (round f false b 1) false false a b (round_whole f false a h)
    (round_whole f false b k)

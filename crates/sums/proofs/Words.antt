-- Laws of what 32 bits keep of a whole number.
use mathlib.Core.Path.{◌≡◌, ap, subst, sym}
use Prim.Native.Nat.{◌%◌, ◌*◌, ◌+◌, ◌-◌, ◌/◌, ◌<◌, ◌≤◌, suc, ℕ}
use native.Mathlib.Nat.{div-add-mod, mod-eq_of_lt, mod-lt}
use native.Mathlib.Omega.{arith}
use borrow.Author.Tests.{le-ltb, lt-ltb}
use lib.IntN.{◌+ℤ◌, nat_abs, negsuc, pos, ℤ}
use Rattle.sums.proofs.Signed.{Is, down, is-add, is-as, is_pos, own, up}
use Rattle.sums.specs.Word.{signed_word, word}

low : (n : ℕ) → n % 4294967296 < 4294967296
low n = mod-lt n (omega arith)

-- z is u, and a multiple of 2^32 more or less
record Rest (z : ℤ) (u : ℕ) : Type 0 where
  more : ℕ
  less : ℕ
  is : Is z (4294967296 * more + u) (4294967296 * less)

rest : (z : ℤ) → Rest z (word z)
unfolding word
rest (pos n) = record {
  more = n / 4294967296;
  less = 0;
  is = record { is = omega (arith, div-add-mod n 4294967296) };
}
rest (negsuc n) = record {
  more = 0;
  less = n / 4294967296 + 1;
  is = record { is = omega (arith, div-add-mod n 4294967296, low n) };
}

below : (z : ℤ) → word z < 4294967296
unfolding word
below (pos n) = low n
below (negsuc n) = omega arith

rest-is : (z : ℤ) (u : ℕ) → Rest z u → u < 4294967296 → word z ≡ u
unfolding word
rest-is (pos n) u r l = omega (arith, r.is.is, div-add-mod n 4294967296, low n)
rest-is (negsuc n) u r l = omega (arith, r.is.is, div-add-mod n 4294967296, low n)

-- a sum keeps the same bits where one part is first cut to 32
pub word-add : (z e : ℤ) → word (pos (word z) +ℤ e) ≡ word (z +ℤ e)
word-add z e =
    let a = rest z in
    let y : ℤ = pos (word z) +ℤ e in
    let b = rest y in
    let s = is-add (is_pos (word z)) (own e) in
    let t = is-add a.is (own e) in
    let q : Rest (z +ℤ e) (word y) = record {
      more = a.more + b.more;
      less = a.less + b.less;
      is = is-as _ _ t (omega (arith, s.is, b.is.is));
    } in
    sym (rest-is (z +ℤ e) (word y) q (below y))

-- the remainder of a number that is 2^32 more
pub word-up : (z : ℤ) (t : ℕ) → z +ℤ pos 4294967296 ≡ pos t → word z ≡ t % 4294967296
word-up z t e =
    let s : Is (pos t) (up z + 4294967296) (down z + 0)
    = subst (λ (y : ℤ). Is y (up z + 4294967296) (down z + 0)) e (is-add (own z) (is_pos 4294967296)) in
    rest-is z (t % 4294967296)
    (record {
      more = t / 4294967296;
      less = 1;
      is = record { is = omega (arith, s.is, div-add-mod t 4294967296) };
    })
    (low t)

-- 32 bits keep a number that is not larger
pub word_small : (n : ℕ) → n < 4294967296 → word (pos n) ≡ n
unfolding word
word_small n l = mod-eq_of_lt l

-- signed, those of a number with a sign
pub signed-small : (z : ℤ) → nat_abs z ≤ 2147483647 → signed_word (word z) ≡ z
unfolding word signed_word
signed-small (pos n) l =
    let e : n % 4294967296 ≡ n = mod-eq_of_lt (omega arith) in
    rw e (simp (lt-ltb n 2147483648 (omega arith)))
signed-small (negsuc n) l =
    let e : n % 4294967296 ≡ n = mod-eq_of_lt (omega arith) in
    let w : ℕ = 4294967296 - suc n in
    let k : 4294967296 - suc w ≡ n = omega arith in
    rw e (simp (le-ltb w 2147483648 (omega arith), lt-ltb w 4294967296 (omega arith)) (ap negsuc k))

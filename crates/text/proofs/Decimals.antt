-- Laws of numbers in base ten.
use mathlib.Core.Bool.{cond}
use mathlib.Core.List.{List, [], ◌++◌, ◌∷◌}
use mathlib.Core.Path.{◌∙◌, ◌≡◌, ap, subst}
use Prim.Native.Nat.{◌%◌, ◌*◌, ◌+◌, ◌/◌, ◌<◌, ◌^◌, ◌≤◌, suc, zero, ℕ}
use native.Mathlib.Nat.{div-lt_iff_lt-mul, div-lt_self, pow-suc}
use native.Mathlib.Omega.{arith}
use borrow.Author.Tests.{le-ltb, lt-ltb}
use lib.Dec.{ltb}
use lib.ListN.{length, length-append}
use Rattle.sums.proofs.Cases.{by-ltb, by_order}
use Rattle.text.specs.Text.{blank, decimal, decimal_by, item, triple}

-- a number of several digits falls when it loses one
pub tenth-less : (n : ℕ) → 10 ≤ n → n / 10 < n
tenth-less n h = div-lt_self (omega arith) (omega arith)

decimal-by : (k n : ℕ) → 10 ≤ n → decimal_by (suc k) n ≡ decimal_by k (n / 10) ++ ((48 + n % 10) ∷ [])
unfolding decimal_by
decimal-by k n h = rw (le-ltb n 10 h)

-- a digit is one byte
pub decimal-small : (n : ℕ) → n < 10 → decimal n ≡ (48 + n) ∷ []
unfolding decimal decimal_by
decimal-small n h = rw (lt-ltb n 10 h)

-- more divisions than it takes change nothing
decimal-enough : (j k n : ℕ) → n < j → n < k → decimal_by j n ≡ decimal_by k n
unfolding decimal_by
decimal-enough zero k n h l = absurd (omega arith)
decimal-enough (suc j) zero n h l = absurd (omega arith)
decimal-enough (suc j) (suc k) n h l =
    by_order n 10 (λ (s : n < 10). rw (lt-ltb n 10 s))
    (λ (s : 10 ≤ n).
    let t = tenth-less n s in
    let e = decimal-enough j k (n / 10) (omega (arith, t)) (omega (arith, t)) in
    ap (λ (d : List ℕ). cond (ltb n 10) ((48 + n) ∷ []) (d ++ ((48 + n % 10) ∷ []))) e)

-- a larger number: the digits of its tenth, and its last
pub decimal-large : (n : ℕ) → 10 ≤ n → decimal n ≡ decimal (n / 10) ++ ((48 + n % 10) ∷ [])
unfolding decimal
decimal-large n h =
    decimal-by n n h
    ∙ ap (λ (d : List ℕ). d ++ ((48 + n % 10) ∷ []))
    (decimal-enough n (suc (n / 10)) (n / 10) (tenth-less n h) (omega arith))

-- no more digits than the power of ten above it
decimal-length : (j k n : ℕ) → n < 10 ^ suc k → length (decimal_by j n) ≤ suc k
unfolding decimal_by
decimal-length zero k n h = omega arith
decimal-length (suc j) k n h =
    by-ltb (λ (d : List ℕ). length d ≤ suc k) n 10
    ((48 + n) ∷ [])
    (decimal_by j (n / 10) ++ ((48 + n % 10) ∷ []))
    (λ s. omega arith)
    (longer k h (λ k l. decimal-length j k (n / 10) l))
  where
    longer : (k : ℕ) → n < 10 ^ suc k
        → ((k : ℕ) → n / 10 < 10 ^ suc k → length (decimal_by j (n / 10)) ≤ suc k)
        → 10 ≤ n → length (decimal_by j (n / 10) ++ ((48 + n % 10) ∷ [])) ≤ suc k
    longer zero h rest s = absurd (omega arith)
    longer (suc k) h rest s =
        let p = subst (λ (p : ℕ). n < p) (pow-suc 10 (suc k)) h in
        let l : n / 10 < 10 ^ suc k = (div-lt_iff_lt-mul {k = 10} (omega arith)).1 p in
        omega (arith, rest k l, length-append (decimal_by j (n / 10)) ((48 + n % 10) ∷ []))

-- an item of at most k + 1 digits has at most k + 2 bytes
pub item-length : (n end k : ℕ) → n < 10 ^ suc k → length (item n end) ≤ k + 2
unfolding item decimal
item-length n end k h = omega (arith, decimal-length (suc n) k n h, length-append (decimal n) (end ∷ []))

-- three numbers of at most k + 1 digits
pub triple-length : (a b c end k : ℕ) → a < 10 ^ suc k → b < 10 ^ suc k → c < 10 ^ suc k
    → length (triple a b c end) ≤ 3 * (k + 2)
unfolding triple
triple-length a b c end k ha hb hc =
    let la = item-length a blank k ha in
    let lb = item-length b blank k hb in
    let lc = item-length c end k hc in
    simp length-append (omega arith)

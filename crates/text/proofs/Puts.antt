-- Laws of text that is put into a slice.
use mathlib.Core.List.{List, [], ◌++◌, ◌∷◌}
use mathlib.Core.Path.{◌∙◌, ◌≡◌, ap, refl, sym}
use Prim.Native.Nat.{◌*◌, ◌+◌, ◌<◌, ◌≤◌, suc, zero, ℕ}
use native.Mathlib.Nat.{add-zero}
use native.Mathlib.Numerals.{add-one}
use native.Mathlib.Omega.{arith}
use lib.ListN.{drop, get_or, length, length-append, set, take}
use lib.Seq.{length-sets, set_out, sets, sets-eq, take-suc}
use Rattle.sums.proofs.Cases.{by_order}
use Rattle.text.specs.Put.{Put}
use Rattle.text.specs.Text.{joined}

-- ---- one text after another
-- a slice keeps its length
pub put-length : {u a b : List ℕ} {i j : ℕ} → Put u a b i j → length b ≡ length a
put-length {u} {a} {b} {i} p = ap length p.holds ∙ length-sets a i u

-- nothing changes nothing
pub put-none : (s : List ℕ) (at : ℕ) → Put [] s s at at
put-none s at = record { goes_on = omega arith; holds = refl }

sets-append : (l : List ℕ) (i : ℕ) (u v : List ℕ) → sets l i (u ++ v) ≡ sets (sets l i u) (i + length u) v
sets-append l i [] v = ap (λ (k : ℕ). sets l k v) (sym (add-zero i))
sets-append l i (a ∷ u) v =
    let e : suc i + length u ≡ i + suc (length u) = omega arith in
    sets-append (set l i a) (suc i) u v ∙ ap (λ (k : ℕ). sets (sets (set l i a) (suc i) u) k v) e

sets-past : (l : List ℕ) (i : ℕ) (u : List ℕ) → length l ≤ i → sets l i u ≡ l
sets-past l i [] h = refl
sets-past l i (a ∷ u) h =
    ap (λ (s : List ℕ). sets s (suc i) u) (set_out l i a h) ∙ sets-past l (suc i) u (omega arith)

-- a text, and another from where it goes on
pub put_then : {u v a b c : List ℕ} {i j k : ℕ} → Put u a b i j → Put v b c j k → Put (u ++ v) a c i k
put_then {u} {v} {a} {b} {c} {i} {j} {k} p q =
    let same = put-length p in
    record {
      goes_on = omega (arith, length-append u v);
      holds =
          q.holds
          ∙ by_order (length a) (i + length u)
          (λ (h : length a < i + length u).
          sets-past b j v (omega arith) ∙ sym (sets-past b (i + length u) v (omega arith)))
          (λ (h : i + length u ≤ length a).
          let e : j ≡ i + length u = omega arith in
          ap (λ (n : ℕ). sets b n v) e)
          ∙ ap (λ (s : List ℕ). sets s (i + length u) v) p.holds
          ∙ sym (sets-append a i u v);
    }

-- one byte of a word more
pub put_next : (w : List ℕ) (n : ℕ) {a b c : List ℕ} {i j k : ℕ} → n < length w
    → Put (take n w) a b i j → Put (get_or w n 0 ∷ []) b c j k → Put (take (n + 1) w) a c i k
put_next w n h p q = rw (add-one n, take-suc w n 0 h) (put_then p q)

-- ---- several texts, by their number
-- none, and one more
pub put-joined-none : (f : ℕ → List ℕ) (s : List ℕ) (at : ℕ) → Put (joined f 0) s s at at
unfolding joined
put-joined-none f s at = put-none s at

pub put-joined-next : (f : ℕ → List ℕ) (n : ℕ) {a b c : List ℕ} {i j k : ℕ}
    → Put (joined f n) a b i j → Put (f n) b c j k → Put (joined f (n + 1)) a c i k
unfolding joined
put-joined-next f n p q = rw (add-one n) (put_then p q)

-- only those below n count
pub joined-cong : (f g : ℕ → List ℕ) (n : ℕ) → ((i : ℕ) → i < n → f i ≡ g i) → joined f n ≡ joined g n
unfolding joined
joined-cong f g zero h = refl
joined-cong f g (suc n) h = rw (joined-cong f g n (λ i l. h i (omega arith)), h n (omega arith))

-- n texts of at most k bytes
pub joined_length : (f : ℕ → List ℕ) (k n : ℕ) → ((i : ℕ) → i < n → length (f i) ≤ k)
    → length (joined f n) ≤ k * n
unfolding joined
joined_length f k zero h = omega arith
joined_length f k (suc n) h =
    let rest = joined_length f k n (λ i l. h i (omega arith)) in
    omega (arith, h n (omega arith), length-append (joined f n) (f n))

-- ---- a text at the start of a slice that has room for it
pub put_first : {u a b : List ℕ} {r : ℕ} → Put u a b 0 r → length u ≤ length a
    → (r ≡ length u) × (b ≡ u ++ drop r a)
put_first {u} {a} {b} {r} p h =
    let e : r ≡ length u = omega arith in
    let fits : 0 + length u ≤ length a = omega arith in
    let n : 0 + length u ≡ r = omega arith in
    (e, p.holds ∙ sets-eq u a 0 fits ∙ ap (λ (k : ℕ). u ++ drop k a) n)

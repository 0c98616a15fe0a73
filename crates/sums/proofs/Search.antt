-- Laws of the tests of every number below n, and of the lowest that passes one.
use mathlib.Core.Bool.{Bool, ◌&&◌, cond, false, true}
use mathlib.Core.Logic.{◌⊎◌, inl, inr, ⊎_elim}
use mathlib.Core.Path.{◌∙◌, ◌≡◌, ap, refl, sym}
use Prim.Native.Nat.{◌+◌, ◌-◌, ◌<◌, ◌≤◌, suc, zero, ℕ}
use native.Mathlib.Nat.{add-suc, add-zero, le-suc_iff}
use native.Mathlib.Numerals.{add-one}
use native.Mathlib.Omega.{arith}
use Rattle.sums.specs.Search.{Found, all_to, at, first, nowhere, or_else}

-- a test does not both pass and fail
pub false-true : false ≡ true → ⊥
false-true h = let z : ◌≡◌ {A = ℕ} 0 1 = cc in omega arith

-- ---- every number passes

and_left : (a b : Bool) → (a && b) ≡ true → a ≡ true
and_left true b e = refl
and_left false b e = e

and_right : (a b : Bool) → (a && b) ≡ true → b ≡ true
and_right true true e = refl
and_right true false e = e
and_right false true e = refl
and_right false false e = e

and-off : (a : Bool) → (a && false) ≡ false
and-off true = refl
and-off false = refl

-- below 0 all pass
pub all_none : (p : ℕ → Bool) → all_to 0 p ≡ true
unfolding all_to
all_none p = refl

-- and one more, where it passes
pub all-next : (n : ℕ) (p : ℕ → Bool) → all_to n p ≡ true → p n ≡ true → all_to (n + 1) p ≡ true
unfolding all_to
all-next n p h k = rw (add-one n, h, k)

-- each one passes where all do
pub all-at : (n : ℕ) (p : ℕ → Bool) → all_to n p ≡ true → (i : ℕ) → i < n → p i ≡ true
unfolding all_to
all-at zero p h i l = absurd (omega arith)
all-at (suc n) p h i l = ⊎_elim
    (λ (k : suc i ≤ n). all-at n p (and_left (all_to n p) (p n) h) i k)
    (λ (e : suc i ≡ suc n). let e' : i ≡ n = omega arith in rw e' (and_right (all_to n p) (p n) h))
    (le-suc_iff.0 l)

-- all pass where each one does
pub all_from : (n : ℕ) (p : ℕ → Bool) → ((i : ℕ) → i < n → p i ≡ true) → all_to n p ≡ true
unfolding all_to
all_from zero p h = refl
all_from (suc n) p h = rw (all_from n p (λ i l. h i (omega arith)), h n (omega arith))

-- one that fails fails all
pub all-off : (n : ℕ) (p : ℕ → Bool) (i : ℕ) → i < n → p i ≡ false → all_to n p ≡ false
unfolding all_to
all-off zero p i l h = absurd (omega arith)
all-off (suc n) p i l h = ⊎_elim
    (λ (k : suc i ≤ n). rw (all-off n p i k h) refl)
    (λ (e : suc i ≡ suc n). let e' : i ≡ n = omega arith in rw (rw e' at h) (and-off (all_to n p)))
    (le-suc_iff.0 l)

-- only the tests below n count
pub all-cong : (n : ℕ) (p q : ℕ → Bool) → ((i : ℕ) → i < n → p i ≡ q i) → all_to n p ≡ all_to n q
unfolding all_to
all-cong zero p q h = refl
all-cong (suc n) p q h = rw (all-cong n p q (λ i l. h i (omega arith)), h n (omega arith))

-- ---- the lowest that passes

-- a search does not both find and not find
pub nowhere-at : {i : ℕ} → nowhere ≡ at i → ⊥
nowhere-at h = let z : ◌≡◌ {A = ℕ} 0 1 = cc in omega arith

both-none : (f : Found) (b : Bool) (n : ℕ) → or_else f (cond b (at n) nowhere) ≡ nowhere
    → (f ≡ nowhere) × (b ≡ false)
both-none nowhere true n h = absurd (nowhere-at (sym h))
both-none nowhere false n h = (refl, refl)
both-none (at i) b n h = absurd (nowhere-at (sym h))

either-at : (f : Found) (b : Bool) (n i : ℕ) → or_else f (cond b (at n) nowhere) ≡ at i
    → (f ≡ at i) ⊎ ((f ≡ nowhere) × (b ≡ true) × (n ≡ i))
either-at nowhere true n i h = inr (refl, refl, cc)
either-at nowhere false n i h = absurd (nowhere-at h)
either-at (at j) b n i h = inl h

module _ (p : ℕ → Bool) where
  -- below 0 there is nothing to find
  pub first-zero : first 0 p ≡ nowhere
  unfolding first
  first-zero = refl

  -- a search that has found nothing yet goes on, or ends here
  pub first-none : (i : ℕ) → first i p ≡ nowhere → p i ≡ false → first (i + 1) p ≡ nowhere
  unfolding first
  first-none i h k = rw (add-one i, h, k)

  here : (i : ℕ) → first i p ≡ nowhere → p i ≡ true → first (i + 1) p ≡ at i
  unfolding first
  here i h k = rw (add-one i, h, k)

  later : (n i k : ℕ) → first n p ≡ at i → first (n + k) p ≡ at i
  unfolding first
  later n i zero h = rw add-zero h
  later n i (suc k) h = rw (add-suc n k, later n i k h)

  -- what it ends with is what the whole search finds
  pub first-hit : (n i : ℕ) → first i p ≡ nowhere → p i ≡ true → i < n → first n p ≡ at i
  first-hit n i h k l =
      let e : i + 1 + (n - (i + 1)) ≡ n = omega arith in
      ap (λ (m : ℕ). first m p) (sym e) ∙ later (i + 1) i (n - (i + 1)) (here i h k)

  -- where nothing is found, none below n passes
  pub first-nowhere : (n : ℕ) → first n p ≡ nowhere → (i : ℕ) → i < n → p i ≡ false
  unfolding first
  first-nowhere zero h i l = absurd (omega arith)
  first-nowhere (suc n) h i l =
      let k = both-none (first n p) (p n) n h in
      ⊎_elim
      (λ (m : suc i ≤ n). first-nowhere n k.0 i m)
      (λ (e : suc i ≡ suc n). let e' : i ≡ n = omega arith in rw e' k.1)
      (le-suc_iff.0 l)

  -- where none below n passes, nothing is found
  pub nowhere-first : (n : ℕ) → ((i : ℕ) → i < n → p i ≡ false) → first n p ≡ nowhere
  unfolding first
  nowhere-first zero h = refl
  nowhere-first (suc n) h = rw (nowhere-first n (λ i l. h i (omega arith)), h n (omega arith))

  -- what is found passes, and nothing before it does
  pub first_found : (n i : ℕ) → first n p ≡ at i → (i < n) × (p i ≡ true) × ((j : ℕ) → j < i → p j ≡ false)
  unfolding first
  first_found zero i h = absurd (nowhere-at h)
  first_found (suc n) i h = ⊎_elim
      (λ (e : first n p ≡ at i). let k = first_found n i e in (omega arith, k.1, k.2))
      (λ (e : (first n p ≡ nowhere) × (p n ≡ true) × (n ≡ i)).
      (omega arith, ap p (sym e.2) ∙ e.1, λ j l. first-nowhere n e.0 j (omega arith)))
      (either-at (first n p) (p n) n i h)

-- only the tests below n count
pub first_cong : (n : ℕ) (p q : ℕ → Bool) → ((i : ℕ) → i < n → p i ≡ q i) → first n p ≡ first n q
unfolding first
first_cong zero p q h = refl
first_cong (suc n) p q h = rw (first_cong n p q (λ i l. h i (omega arith)), h n (omega arith))

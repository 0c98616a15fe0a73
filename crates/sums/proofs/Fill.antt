-- Laws of the lists that a filling loop makes.
use mathlib.Core.Bool.{Bool, cond, false, true}
use mathlib.Core.List.{List, [], ◌++◌, ◌∷◌, append_assoc}
use mathlib.Core.Logic.{⊎_elim}
use mathlib.Core.Path.{◌∙◌, ◌≡◌, ap, refl, sym}
use Prim.Native.Nat.{◌+◌, ◌-◌, ◌<◌, ◌≤◌, suc, zero, ℕ}
use native.Mathlib.Nat.{le_refl, le-suc_iff}
use native.Mathlib.Numerals.{add-one}
use native.Mathlib.Omega.{arith}
use lib.ListN.{get_or-append, drop, get_or, length, length-append, length-drop, set, take}
use lib.Seq.{drop-append-add, drop-cons, drop-drop, ext_get_or, get_or_at, set_at, take-append-le, take-length}
use Rattle.sums.specs.Fill.{filled, tabulate}

-- only the values below n count
pub tabulate-cong : {A : Type 0} (f g : ℕ → A) (n : ℕ) → ((i : ℕ) → i < n → f i ≡ g i)
    → tabulate f n ≡ tabulate g n
unfolding tabulate
tabulate-cong f g zero h = refl
tabulate-cong f g (suc n) h = rw (tabulate-cong f g n (λ i l. h i (omega arith)), h n (omega arith))

-- so in a filled list
pub filled-cong : {A : Type 0} (f g : ℕ → A) (n : ℕ) (d : List A) → ((i : ℕ) → i < n → f i ≡ g i)
    → filled f n d ≡ filled g n d
unfolding filled
filled-cong f g n d h = ap (λ (l : List _). l ++ drop n d) (tabulate-cong f g n h)

module _ {A : Type 0} (f : ℕ → A) where
  -- ---- tabulated lists
  -- one of n values has the length n
  pub length-tabulate : (n : ℕ) → length (tabulate f n) ≡ n
  unfolding tabulate
  length-tabulate zero = refl
  length-tabulate (suc n) =
      length-append (tabulate f n) (f n ∷ [])
      ∙ ap (λ (k : ℕ). k + 1) (length-tabulate n)
      ∙ add-one n

  -- and the value f i at i
  pub tabulate-at : (n i : ℕ) (z : A) → i < n → get_or (tabulate f n) i z ≡ f i
  unfolding tabulate
  tabulate-at zero i z h = absurd (omega arith)
  tabulate-at (suc n) i z h = ⊎_elim
      (λ (l : suc i ≤ n).
      get_or-append (tabulate f n) (f n ∷ []) z i (omega (arith, length-tabulate n))
      ∙ tabulate-at n i z l)
      (λ (e : suc i ≡ suc n).
      let e' : i ≡ n = omega arith in
      get_or_at (tabulate f n) (f n) [] z i (length-tabulate n ∙ sym e') ∙ ap f (sym e'))
      (le-suc_iff.0 h)

  -- its first k values
  pub take-tabulate : (k n : ℕ) → k ≤ n → take k (tabulate f n) ≡ tabulate f k
  unfolding tabulate
  take-tabulate k zero h = let e : k ≡ 0 = omega arith in rw e
  take-tabulate k (suc n) h = ⊎_elim
      (λ (l : k ≤ n).
      take-append-le k (tabulate f n) (f n ∷ []) (omega (arith, length-tabulate n))
      ∙ take-tabulate k n l)
      (λ (e : k ≡ suc n).
      ap (λ (i : ℕ). take i (tabulate f (suc n))) (e ∙ sym (length-tabulate (suc n)))
      ∙ take-length (tabulate f (suc n))
      ∙ ap (tabulate f) (sym e))
      (le-suc_iff.0 h)

  -- ---- filled lists
  -- nothing is filled before a loop's first turn
  pub fill_none : (d : List A) → filled f 0 d ≡ d
  unfolding filled tabulate
  fill_none d = refl

  -- a turn that stores f n at n fills one place more
  pub fill-store : (n : ℕ) (d : List A) (v : A) → n < length d → v ≡ f n
      → set (filled f n d) n v ≡ filled f (n + 1) d
  unfolding filled tabulate
  fill-store n d v h e =
      ap (λ (l : List A). set (tabulate f n ++ l) n v) (drop-cons d n v h)
      ∙ set_at (tabulate f n) (get_or d n v) (drop (suc n) d) v n (length-tabulate n)
      ∙ sym (append_assoc (tabulate f n) (v ∷ []) (drop (suc n) d))
      ∙ ap (λ (a : A). (tabulate f n ++ (a ∷ [])) ++ drop (suc n) d) e
      ∙ ap (λ (k : ℕ). filled f k d) (sym (add-one n))

  -- a filled place holds f's value
  pub filled_at : (n : ℕ) (d : List A) (i : ℕ) (z : A) → i < n → get_or (filled f n d) i z ≡ f i
  unfolding filled
  filled_at n d i z h =
      get_or-append (tabulate f n) (drop n d) z i (omega (arith, length-tabulate n))
      ∙ tabulate-at n i z h

  -- filling keeps the length
  pub length-filled : (n : ℕ) (d : List A) → n ≤ length d → length (filled f n d) ≡ length d
  unfolding filled
  length-filled n d h =
      omega (arith, length-append (tabulate f n) (drop n d), length-tabulate n, length-drop n d)

  -- so does filling by a test that passes only where there is room
  pub length-filled-if : (n : ℕ) (d : List A) (b : Bool) → (b ≡ true → n ≤ length d)
      → length (cond b (filled f n d) d) ≡ length d
  length-filled-if n d true h = length-filled n d (h refl)
  length-filled-if n d false h = refl

  -- the filled places, and those past them
  pub take-filled : (k n : ℕ) (d : List A) → k ≤ n → take k (filled f n d) ≡ tabulate f k
  unfolding filled
  take-filled k n d h =
      take-append-le k (tabulate f n) (drop n d) (omega (arith, length-tabulate n))
      ∙ take-tabulate k n h

  pub drop-filled : (k n : ℕ) (d : List A) → n ≤ k → drop k (filled f n d) ≡ drop k d
  unfolding filled
  drop-filled k n d h =
      let e : k ≡ length (tabulate f n) + (k - n) = omega (arith, length-tabulate n) in
      let i : n + (k - n) ≡ k = omega arith in
      ap (λ (j : ℕ). drop j (tabulate f n ++ drop n d)) e
      ∙ drop-append-add (tabulate f n) (drop n d) (k - n)
      ∙ drop-drop (k - n) n d
      ∙ ap (λ (j : ℕ). drop j d) i

-- what was filled before is filled over
pub refill : {A : Type 0} (f g : ℕ → A) (k n : ℕ) (d : List A) → k ≤ n
    → filled f n (filled g k d) ≡ filled f n d
unfolding filled
refill f g k n d h = ap (λ (l : List _). tabulate f n ++ l) (drop-filled g n k d h)

-- an inner loop starts from the list as it is: the filled list over itself, and back
module _ {A : Type 0} (f : ℕ → A) (d s : List A) (k : ℕ) (h : s ≡ filled f k d) where
  -- filled up to k, it is itself filled up to k
  pub rebase-in : s ≡ filled f k s
  rebase-in = h ∙ sym (ap (filled f k) h ∙ refill f f k k d (le_refl k))

  -- what is filled on from it is filled on from d
  pub rebase-out : (r : List A) (n : ℕ) → k ≤ n → r ≡ filled f n s → r ≡ filled f n d
  rebase-out r n l e = e ∙ ap (filled f n) h ∙ refill f f k n d l

-- a list by its elements
pub list-is-tabulate : {A : Type 0} (l : List A) (n : ℕ) (z : A) → length l ≡ n
    → l ≡ tabulate (λ i. get_or l i z) n
list-is-tabulate l n z e =
    ext_get_or z l (tabulate (λ i. get_or l i z) n)
    (e ∙ sym (length-tabulate (λ i. get_or l i z) n))
    (λ i h. sym (tabulate-at (λ i. get_or l i z) n i z (omega arith)))

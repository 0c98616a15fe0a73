-- The nested search through the window finds the gap with the lowest index.
use mathlib.Core.Bool.{Bool, cond, false, true}
use mathlib.Core.Logic.{◌⊎◌, inl, inr, ⊎_elim}
use mathlib.Core.Path.{◌∙◌, ◌≡◌, refl, sym}
use Prim.Native.Nat.{◌*◌, ◌+◌, ◌<◌, ◌≤◌, suc, zero, ℕ}
use native.Mathlib.Nat.{eq-or-lt_of_le, le_refl, le-suc_iff, mul-le-mul_left}
use native.Mathlib.Omega.{arith}
use borrow.Author.Tests.{leb-false, leb-true}
use lib.Dec.{leb}
use Rattle.sums.proofs.Places.{index_in}
use Rattle.sums.proofs.Search.{first-hit, nowhere-at, nowhere-first}
use Rattle.sums.specs.Search.{Found, at, first, nowhere, or_else}
use Rattle.blending.specs.Inner.Search.{first_of}

-- ---- what a search says of its steps

none_of : (n : ℕ) (f : ℕ → Found) → first_of n f ≡ nowhere → (k : ℕ) → k < n → f k ≡ nowhere
unfolding first_of
none_of zero f h k l = absurd (omega arith)
none_of (suc n) f h k l = go (first_of n f) (f n) h (λ e k. none_of n f e k) refl refl
  where
    go : (g r : Found) → or_else g r ≡ nowhere
        → (first_of n f ≡ nowhere → (k : ℕ) → k < n → f k ≡ nowhere)
        → first_of n f ≡ g → f n ≡ r → f k ≡ nowhere
    go nowhere r h ih e d = ⊎_elim
        (λ (s : suc k ≤ n). ih e k s)
        (λ (s : suc k ≡ suc n). let s' : k ≡ n = omega arith in rw s' (d ∙ h))
        (le-suc_iff.0 l)
    go (at i) r h ih e d = absurd (nowhere-at (sym h))

-- the step that found i, and nothing before it
record Hit (n : ℕ) (f : ℕ → Found) (i : ℕ) : Type 0 where
  step : ℕ
  below : step < n
  here : f step ≡ at i
  before : (k : ℕ) → k < step → f k ≡ nowhere

hit-of : (n : ℕ) (f : ℕ → Found) (i : ℕ) → first_of n f ≡ at i → Hit n f i
unfolding first_of
hit-of zero f i h = absurd (nowhere-at h)
hit-of (suc n) f i h = go (first_of n f) (f n) h (hit-of n f i) refl refl
  where
    go : (g r : Found) → or_else g r ≡ at i → (first_of n f ≡ at i → Hit n f i)
        → first_of n f ≡ g → f n ≡ r → Hit (suc n) f i
    go nowhere r h ih e d = record { step = n; below = omega arith; here = d ∙ h; before = none_of n f e }
    go (at j) r h ih e d =
        let p = ih (e ∙ h) in
        record { step = p.step; below = omega (arith, p.below); here = p.here; before = p.before }

-- the search of one index
hit-at : {i : ℕ} (t : Bool) (x : ℕ) → cond t (at x) nowhere ≡ at i → (t ≡ true) × (x ≡ i)
hit-at true x h = (refl, cc)
hit-at false x h = absurd (nowhere-at h)

hit-none : (t : Bool) (x : ℕ) → cond t (at x) nowhere ≡ nowhere → t ≡ false
hit-none true x h = absurd (nowhere-at (sym h))
hit-none false x h = refl

-- ---- the order of the indices

compare : (a b : ℕ) → (a < b) ⊎ ((a ≡ b) ⊎ (b < a))
compare a b = go (leb a b) refl
  where
    go : (t : Bool) → leb a b ≡ t → (a < b) ⊎ ((a ≡ b) ⊎ (b < a))
    go true e = ⊎_elim (λ s. inr (inl s)) (λ s. inl s) (eq-or-lt_of_le (leb-true a b e))
    go false e = inr (inr (leb-false a b e))

later-layer : (n1 n2 x y z x' y' z' : ℕ) → x < n1 → y < n2 → z < z'
    → x + n1 * (y + n2 * z) < x' + n1 * (y' + n2 * z')
later-layer n1 n2 x y z x' y' z' hx hy hz =
    omega (arith, index_in n1 n2 (suc z) x y z hx hy (le_refl (suc z)), mul-le-mul_left (n1 * n2) hz)

later-row : (n1 x y x' y' Y : ℕ) → x < n1 → y < y' → x + n1 * (y + Y) < x' + n1 * (y' + Y)
later-row n1 x y x' y' Y hx hy = omega (arith, mul-le-mul_left n1 hy)

-- ---- the window from (lo1, lo2, lo3), of e1, e2, e3 entries, in a block of sizes n1, n2, n3

module _ (n1 n2 n3 lo1 lo2 lo3 e1 e2 e3 : ℕ) (in1 : lo1 + e1 ≤ n1) (in2 : lo2 + e2 ≤ n2)
    (in3 : lo3 + e3 ≤ n3) (gap : ℕ → Bool) where
  abbrev pub window_index : ℕ → ℕ → ℕ → ℕ
  window_index t1 t2 t3 = lo1 + t1 + n1 * (lo2 + t2 + n2 * (lo3 + t3))

  abbrev rows : ℕ → ℕ → Found
  rows t3 t2 = first_of e1 (λ t1. cond (gap (window_index t1 t2 t3)) (at (window_index t1 t2 t3)) nowhere)

  abbrev planes : ℕ → Found
  planes t3 = first_of e2 (rows t3)

  -- the coordinates of a hit, with no gap before them
  record Place (i : ℕ) : Type 0 where
    t1 : ℕ
    t2 : ℕ
    t3 : ℕ
    low1 : t1 < e1
    low2 : t2 < e2
    low3 : t3 < e3
    is-gap : gap (window_index t1 t2 t3) ≡ true
    is-index : window_index t1 t2 t3 ≡ i
    planes-before : (r3 : ℕ) → r3 < t3 → planes r3 ≡ nowhere
    rows_before : (r2 : ℕ) → r2 < t2 → rows t3 r2 ≡ nowhere
    entries-before : (r1 : ℕ) → r1 < t1 → gap (window_index r1 t2 t3) ≡ false

  place_of : (i : ℕ) → first_of e3 planes ≡ at i → Place i
  place_of i h =
      let c = hit-of e3 planes i h in
      let b = hit-of e2 (rows c.step) i c.here in
      let a = hit-of e1 _ i b.here in
      let e = hit-at _ _ a.here in
      record {
        t1 = a.step;
        t2 = b.step;
        t3 = c.step;
        low1 = a.below;
        low2 = b.below;
        low3 = c.below;
        is-gap = e.0;
        is-index = e.1;
        planes-before = c.before;
        rows_before = b.before;
        entries-before = λ r1 l. hit-none _ _ (a.before r1 l);
      }

  no_gap : (r1 r2 r3 : ℕ) → r1 < e1 → r2 < e2 → planes r3 ≡ nowhere → gap (window_index r1 r2 r3) ≡ false
  no_gap r1 r2 r3 l1 l2 h = hit-none _ _ (none_of e1 _ (none_of e2 (rows r3) h r2 l2) r1 l1)

  -- an index of the window before that of a hit has no gap
  module _ (i : ℕ) (p : Place i) where
    in_row : (r1 : ℕ) → window_index r1 p.t2 p.t3 < i → gap (window_index r1 p.t2 p.t3) ≡ false
    in_row r1 h = p.entries-before r1 (omega (arith, p.is-index))

    in-plane : (r1 r2 : ℕ) → r1 < e1 → window_index r1 r2 p.t3 < i → gap (window_index r1 r2 p.t3) ≡ false
    in-plane r1 r2 l1 h = ⊎_elim
        (λ (s : r2 < p.t2). hit-none _ _ (none_of e1 _ (p.rows_before r2 s) r1 l1))
        (⊎_elim
        (λ (s : r2 ≡ p.t2). rw s (in_row r1 (rw s at h)))
        (λ (s : p.t2 < r2).
        absurd
        (omega (
          arith,
          p.is-index,
          later-row n1 (lo1 + p.t1) (lo2 + p.t2) (lo1 + r1) (lo2 + r2) (n2 * (lo3 + p.t3))
              (omega (arith, p.low1)) (omega arith),
        ))))
        (compare r2 p.t2)

    earlier : (r1 r2 r3 : ℕ) → r1 < e1 → r2 < e2 → window_index r1 r2 r3 < i
        → gap (window_index r1 r2 r3) ≡ false
    earlier r1 r2 r3 l1 l2 h = ⊎_elim
        (λ (s : r3 < p.t3). no_gap r1 r2 r3 l1 l2 (p.planes-before r3 s))
        (⊎_elim
        (λ (s : r3 ≡ p.t3). rw s (in-plane r1 r2 l1 (rw s at h)))
        (λ (s : p.t3 < r3).
        absurd
        (omega (
          arith,
          p.is-index,
          later-layer n1 n2 (lo1 + p.t1) (lo2 + p.t2) (lo3 + p.t3) (lo1 + r1) (lo2 + r2) (lo3 + r3)
              (omega (arith, p.low1)) (omega (arith, p.low2)) (omega arith),
        ))))
        (compare r3 p.t3)

  -- a test that holds of the window's gaps, and of nothing else, finds the same
  module _ (test : ℕ → Bool)
      (yes : (t1 t2 t3 : ℕ) → t1 < e1 → t2 < e2 → t3 < e3 → gap (window_index t1 t2 t3) ≡ true
      → test (window_index t1 t2 t3) ≡ true)
      (no : (i : ℕ) → i < n1 * n2 * n3
      → ((t1 t2 t3 : ℕ) → t1 < e1 → t2 < e2 → t3 < e3 → window_index t1 t2 t3 ≡ i
      → gap (window_index t1 t2 t3) ≡ false)
      → test i ≡ false) where
    found : (g : Found) → first_of e3 planes ≡ g → first (n1 * n2 * n3) test ≡ g
    found nowhere h =
        nowhere-first test (n1 * n2 * n3)
        (λ i l. no i l (λ t1 t2 t3 l1 l2 l3 e. no_gap t1 t2 t3 l1 l2 (none_of e3 planes h t3 l3)))
    found (at i) h =
        let p = place_of i h in
        let e = p.is-index in
        let l : i < n1 * n2 * n3 =
        omega (
          arith,
          e,
          index_in n1 n2 n3 (lo1 + p.t1) (lo2 + p.t2) (lo3 + p.t3) (omega (arith, p.low1))
              (omega (arith, p.low2)) (omega (arith, p.low3)),
        ) in
        let before =
        nowhere-first test i
        (λ k s. no k (omega arith) (λ t1 t2 t3 l1 l2 l3 d. earlier i p t1 t2 t3 l1 l2 (omega arith))) in
        let here = rw e at (yes p.t1 p.t2 p.t3 p.low1 p.low2 p.low3 p.is-gap) in
        first-hit test (n1 * n2 * n3) i before here l

    -- the nested search is the search through all indices
    pub nested-first : first_of e3 planes ≡ first (n1 * n2 * n3) test
    nested-first = sym (found (first_of e3 planes) refl)

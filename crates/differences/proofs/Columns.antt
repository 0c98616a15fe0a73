-- Columns of a row of direction 1: places of one remainder, every (g + 1)th place of the row.
use mathlib.Core.List.{List}
use mathlib.Core.Logic.{◌⊎◌, inl, inr, ⊎_elim}
use mathlib.Core.Path.{◌∙◌, ◌≡◌, ap, refl, sym}
use Prim.Native.Nat.{◌%◌, ◌*◌, ◌+◌, ◌-◌, ◌/◌, ◌<◌, ◌≤◌, suc, ℕ}
use native.Mathlib.Nat.{mul-le-mul_left}
use native.Mathlib.Omega.{arith}
use lib.IntN.{pos, ℤ}
use lib.ListN.{get_or, length, set}
use lib.Seq.{ext_get_or, get_or-drop, get_or-set_other, get_or-set_same}
use Rattle.sums.proofs.Cases.{by_order}
use Rattle.sums.proofs.Fill.{drop-filled, filled_at, length-filled}
use Rattle.sums.specs.Fill.{filled}
use Rattle.spline.specs.Place.{Axis}
use Rattle.cells.proofs.RunningCells.{remainder_is, running-near, running-remainder, whole}
use Rattle.cells.specs.Coordinates.{near_coordinate}
use Rattle.differences.specs.Inner.Rows.{Column, FillsOn, along_difference, line_difference}
use Rattle.cells.specs.declared.Cell.{Cell}

-- ---- one column
module _ (g : ℕ) (f : ℕ → ℤ) (b e : ℕ) (before : List ℤ) where
  -- nothing is written at first
  pub column-none : Column g f b b e before before
  column-none = record { numbers = λ k l. absurd (omega arith); others = λ j away. refl }

  -- the next number is stored
  pub column-next : (now : List ℤ) (k i : ℕ) (v : ℤ) → i ≡ b + suc g * k → i < e → i < length now → v ≡ f k
      → Column g f b i e before now → Column g f b (i + (g + 1)) e before (set now i v)
  column-next now k i v at low inside is c = record {
    numbers = λ n l. by_order n k (earlier n) (λ h. here n (same n l h));
    others = λ j away. get_or-set_other now i j v (pos 0) (λ q. away k (omega arith) (omega arith))
        ∙ c.others j away;
  }
    where
      earlier : (n : ℕ) → n < k → get_or (set now i v) (b + suc g * n) (pos 0) ≡ f n
      earlier n h =
          let m : suc g * suc n ≤ suc g * k = mul-le-mul_left (suc g) h in
          get_or-set_other now i (b + suc g * n) v (pos 0) (λ q. omega arith) ∙ c.numbers n (omega arith)

      same : (n : ℕ) → b + suc g * n < i + (g + 1) → k ≤ n → n ≡ k
      same n l h =
          by_order k n
          (λ o. let m : suc g * suc k ≤ suc g * n = mul-le-mul_left (suc g) o in absurd (omega arith))
          (λ o. omega arith)

      here : (n : ℕ) → n ≡ k → get_or (set now i v) (b + suc g * n) (pos 0) ≡ f n
      here n q =
          ap (λ (m : ℕ). get_or (set now i v) (b + suc g * m) (pos 0)) q
          ∙ ap (λ (m : ℕ). get_or (set now i v) m (pos 0)) (sym at)
          ∙ get_or-set_same now i v (pos 0) inside
          ∙ is
          ∙ ap f (sym q)

  -- all are stored past the end
  pub column-all : (now : List ℤ) (i : ℕ) → e ≤ i → Column g f b i e before now → Column g f b e e before now
  column-all now i h c = record { numbers = λ k l. c.numbers k (omega arith); others = c.others }

-- ---- the columns of a row
-- the columns of the first x places hold the numbers of f, and what is outside the row is untouched
pub record Written (g : ℕ) (f : ℕ → ℤ) (i w x : ℕ) (before after : List ℤ) : Type 0 where
  pub numbers : (n : ℕ) → n < w → n % suc g < x → get_or after (i + n) (pos 0) ≡ f n
  pub outside : (j : ℕ) → (j < i) ⊎ (i + w ≤ j) → get_or after j (pos 0) ≡ get_or before j (pos 0)

module _ (g : ℕ) (f : ℕ → ℤ) (i w : ℕ) (before : List ℤ) where
  -- there are none at first
  pub written_none : Written g f i w 0 before before
  written_none = record { numbers = λ n l m. absurd (omega arith); outside = λ j o. refl }

  -- one more is written
  pub written_next : (now after : List ℤ) (h : ℕ → ℤ) (x : ℕ) → x ≤ g
      → ((k : ℕ) → h k ≡ f (x + suc g * k)) → Written g f i w x before now
      → Column g h (i + x) (i + w) (i + w) now after → Written g f i w (x + 1) before after
  written_next now after h x hx is c d = record {
    numbers = λ n l m. by_order (n % suc g) x (earlier n l) (λ o. here n l (omega arith));
    outside = λ j o. d.others j (λ k l q. ⊎_elim (λ p. omega arith) (λ p. omega arith) o) ∙ c.outside j o;
  }
    where
      earlier : (n : ℕ) → n < w → n % suc g < x → get_or after (i + n) (pos 0) ≡ f n
      earlier n l o =
          d.others (i + n) (λ k m q. omega (arith, remainder_is g k x hx n (omega arith)))
          ∙ c.numbers n l o

      here : (n : ℕ) → n < w → n % suc g ≡ x → get_or after (i + n) (pos 0) ≡ f n
      here n l o =
          let k : ℕ = n / suc g in
          let at : x + suc g * k ≡ n = omega (arith, (whole g n).0) in
          let index : i + n ≡ i + x + suc g * k = omega arith in
          ap (λ (m : ℕ). get_or after m (pos 0)) index
          ∙ d.numbers k (omega arith)
          ∙ is k
          ∙ ap f at

  -- all are written: the row is filled
  pub written_all : (now : List ℤ) (x : ℕ) → g < x → length now ≡ length before → i + w ≤ length before
      → Written g f i w x before now → (F : ℕ → ℤ) → ((n : ℕ) → n < w → F (i + n) ≡ f n)
      → FillsOn F i (i + w) before now
  written_all now x hx same inside c F is start =
      ext_get_or (pos 0) now (filled F (i + w) before) (same ∙ sym (length-filled F (i + w) before inside))
      (λ j l. by_order j i (below j) (λ a. by_order j (i + w) (within j a) (past j)))
    where
      below : (j : ℕ) → j < i → get_or now j (pos 0) ≡ get_or (filled F (i + w) before) j (pos 0)
      below j l =
          c.outside j (inl l)
          ∙ ap (λ (d : List ℤ). get_or d j (pos 0)) start
          ∙ filled_at F i before j (pos 0) l
          ∙ sym (filled_at F (i + w) before j (pos 0) (omega arith))

      within : (j : ℕ) → i ≤ j → j < i + w → get_or now j (pos 0) ≡ get_or (filled F (i + w) before) j (pos 0)
      within j a l =
          let at : i + (j - i) ≡ j = omega arith in
          ap (λ (n : ℕ). get_or now n (pos 0)) (sym at)
          ∙ c.numbers (j - i) (omega arith) (omega (arith, (whole g (j - i)).1))
          ∙ sym (is (j - i) (omega arith))
          ∙ ap F at
          ∙ sym (filled_at F (i + w) before j (pos 0) l)

      past : (j : ℕ) → i + w ≤ j → get_or now j (pos 0) ≡ get_or (filled F (i + w) before) j (pos 0)
      past j l =
          let at : j + 0 ≡ j = omega arith in
          c.outside j (inr l)
          ∙ ap (λ (n : ℕ). get_or before n (pos 0)) (sym at)
          ∙ sym (get_or-drop j before 0 (pos 0))
          ∙ ap (λ (d : List ℤ). get_or d 0 (pos 0)) (sym (drop-filled F j (i + w) before l))
          ∙ get_or-drop j (filled F (i + w) before) 0 (pos 0)
          ∙ ap (λ (n : ℕ). get_or (filled F (i + w) before) n (pos 0)) at

-- ---- the differences of a column
-- Its places have the remainder u of its first place x, and the lowered coordinate grows by g from one to the
-- next.
pub column-difference : (g u a x : ℕ) → u ≤ g → g + suc g * a ≡ u + g * x
    → (W : Axis → ℕ) (s : List ℕ) (y z : Cell) (k : ℕ)
    → line_difference g W s y z u (a + g * k) ≡ along_difference g W s y z (x + suc g * k)
column-difference g u a x hu e W s y z k =
    let n : ℕ = x + suc g * k in
    let near = running-near g u g (x + suc g * k) 0 (a + g * k) hu (omega arith) (omega arith) in
    let remainder = running-remainder g (x + suc g * k + g) u (a + g * k + g) hu (omega arith) in
    ap (line_difference g W s y z u) near
    ∙ ap (λ (w : ℕ). line_difference g W s y z w (near_coordinate g w g n)) (sym remainder)

-- Cells and remainders of coordinates, and the lowered coordinate, as they run along an axis.
use mathlib.Core.Path.{◌∙◌, ◌≡◌, ap, ap₂, refl, sym}
use Prim.Native.Nat.{◌%◌, ◌*◌, ◌+◌, ◌-◌, ◌/◌, ◌<◌, ◌≤◌, suc, zero, ℕ}
use native.Mathlib.Nat.{add-zero, div-add-mod, div-eq_of_lt, mod-eq_of_lt, mod-lt, mul-add-div}
use native.Mathlib.Nat.{mul-add-mod_self_left, mul-le-mul_left, zero-lt-suc}
use native.Mathlib.Omega.{arith}
use Rattle.sums.proofs.Cases.{by_order}
use Rattle.spline.proofs.Lowering.{above-lowers, below_stays}
use Rattle.spline.specs.Rule.{lower_above}
use Rattle.cells.specs.Coordinates.{cell_of, lowered_coordinate, near_coordinate}
use Rattle.cells.specs.declared.Cell.{Cell}

-- a cell from its two numbers
abbrev pub cell_at : ℕ → ℕ → Cell
cell_at a b = record { base = a; u = b }

-- ---- a cell k and a remainder u, and the division that finds them
module _ (g k u : ℕ) (l : u ≤ g) where
  quotient : (suc g * k + u) / suc g ≡ k
  quotient =
      mul-add-div (zero-lt-suc g) k u
      ∙ ap (λ (n : ℕ). k + n) (div-eq_of_lt (omega arith))
      ∙ add-zero k

  remainder : (suc g * k + u) % suc g ≡ u
  remainder = mul-add-mod_self_left (suc g) k u ∙ mod-eq_of_lt (omega arith)

  -- of a number that they make up
  module _ (n : ℕ) (e : suc g * k + u ≡ n) where
    quotient_is : n / suc g ≡ k
    quotient_is = ap (λ (t : ℕ). t / suc g) (sym e) ∙ quotient

    -- the division finds the remainder
    pub remainder_is : n % suc g ≡ u
    remainder_is = ap (λ (t : ℕ). t % suc g) (sym e) ∙ remainder

    cell-is : cell_of g n ≡ cell_at (g * k) u
    cell-is = ap₂ cell_at (ap (λ (t : ℕ). g * t) quotient_is) remainder_is

    lowered_is : (p : ℕ) → lowered_coordinate g p n ≡ g * k + lower_above p u
    unfolding lowered_coordinate
    lowered_is p = rw (quotient_is, remainder_is)

-- a number is made of its cell and its remainder, which is at most g
pub whole : (g n : ℕ) → (suc g * (n / suc g) + n % suc g ≡ n) × (n % suc g ≤ g)
whole g n = (div-add-mod n (suc g), omega (arith, mod-lt n (zero-lt-suc g)))

-- its lowered coordinate
lowered-at : (g p n : ℕ) → lowered_coordinate g p n ≡ g * (n / suc g) + lower_above p (n % suc g)
unfolding lowered_coordinate
lowered-at g p n = refl

same-quotient : (g k l a b : ℕ) → a ≤ g → b ≤ g → suc g * k + a ≡ suc g * l + b → k ≡ l
same-quotient g k l a b ha hb e = sym (quotient_is g k a ha (suc g * l + b) e) ∙ quotient g l b hb

-- ---- the next coordinate
-- it is in the same cell where the remainder can still grow
pub next-within : (g n : ℕ) → n % suc g < g → cell_of g (n + 1) ≡ cell_at (g * (n / suc g)) (n % suc g + 1)
next-within g n l = cell-is g (n / suc g) (n % suc g + 1) (omega arith) (n + 1) (omega (arith, whole g n))

-- and it begins the next cell otherwise
pub next-carries : (g n : ℕ) → g ≤ n % suc g → cell_of g (n + 1) ≡ cell_at (g * (n / suc g) + g) 0
next-carries g n l =
    let e : g * suc (n / suc g) ≡ g * (n / suc g) + g = omega arith in
    cell-is g (suc (n / suc g)) 0 (omega arith) (n + 1) (omega (arith, whole g n))
    ∙ ap (λ (t : ℕ). cell_at t 0) e

-- the first cell
pub first_cell : (g t : ℕ) → t ≤ g → cell_of g t ≡ cell_at 0 t
first_cell g t l =
    let e : g * 0 ≡ 0 = omega arith in
    cell-is g 0 t l t (omega arith) ∙ ap (λ (k : ℕ). cell_at k t) e

-- ---- the lowered coordinate as it runs along
-- It stays once in each cell, past the pivot: s is the coordinate that has run along to n where the next stay
-- is r places on. It is never ahead of n.
not-ahead : (g p n r s : ℕ) → p ≤ g → n + r + suc g * s ≡ p + suc g * n → n < s → ⊥
not-ahead g p n r s hp e l = let h : suc g * suc n ≤ suc g * s = mul-le-mul_left (suc g) l in omega arith

running : (g p n r s : ℕ) → p ≤ g → r ≤ g → n + r + suc g * s ≡ p + suc g * n → s ≡ lowered_coordinate g p n
running g p n r s hp hr e =
    by_order n s (λ l. absurd (not-ahead g p n r s hp e l)) (λ l. go (n - s) (omega arith))
  where
    k : ℕ
    k = n / suc g

    u : ℕ
    u = n % suc g

    w : (suc g * k + u ≡ n) × (u ≤ g)
    w = whole g n

    go : (t : ℕ) → n ≡ s + t → s ≡ lowered_coordinate g p n
    go t en =
        let f : n + r ≡ p + suc g * t = omega (arith, ap (λ (x : ℕ). suc g * x) en) in
        by_order p u
        (λ l. let q = same-quotient g (suc k) t r (suc g + p - u) hr (omega arith) (omega (arith, w)) in
        omega (arith, w, lowered-at g p n, above-lowers p u l))
        (λ l. let q = same-quotient g k t r (p - u) hr (omega arith) (omega (arith, w)) in
        omega (arith, w, lowered-at g p n, below_stays p u l))

-- where the remainder itself is the pivot, it is the one that has run along
pub running-remainder : (g n u s : ℕ) → u ≤ g → n + suc g * s ≡ u + suc g * n → n % suc g ≡ u
running-remainder g n u s hu e =
    by_order n s (λ l. absurd (not-ahead g u n 0 s hu (omega arith) l)) (λ l. go (n - s) (omega arith))
  where
    go : (t : ℕ) → n ≡ s + t → n % suc g ≡ u
    go t en = remainder_is g t u hu n (omega (arith, ap (λ (x : ℕ). suc g * x) en))

-- the next place
module _ (g p t x r a r' a' : ℕ) (e : x + t + r + suc g * (a + t) ≡ p + suc g * (x + t)) where
  -- the coordinate stays where no place is left to the next stay
  pub stays : r ≡ 0 → r' ≡ g → a' ≡ a → x + 1 + t + r' + suc g * (a' + t) ≡ p + suc g * (x + 1 + t)
  stays k kr ka = rw (kr, ka) (omega arith)

  -- and goes on with the places otherwise
  pub goes_on : 1 ≤ r → r' ≡ r - 1 → a' ≡ a + 1
      → x + 1 + t + r' + suc g * (a' + t) ≡ p + suc g * (x + 1 + t)
  goes_on k kr ka = rw (kr, ka) (omega arith)

-- the coordinate one step before x, a step t of which has run along before the row begins
pub running-near : (g p t x r a : ℕ) → p ≤ g → r ≤ g
    → x + t + r + suc g * (a + t) ≡ p + suc g * (x + t) → a ≡ near_coordinate g p t x
running-near g p t x r a hp hr e = omega (arith, running g p (x + t) r (a + t) hp hr e)

-- ---- the lowered coordinate elsewhere
-- a whole cell on it is g higher
pub lowered-up : (g p n : ℕ) → lowered_coordinate g p (n + suc g) ≡ lowered_coordinate g p n + g
lowered-up g p n =
    let w = whole g n in
    let up = lowered_is g (suc (n / suc g)) (n % suc g) w.1 (n + suc g) (omega (arith, w)) p in
    omega (arith, up, lowered-at g p n)

-- and the remainder is the same
pub remainder-up : (g n : ℕ) → (n + suc g) % suc g ≡ n % suc g
remainder-up g n =
    let w = whole g n in
    remainder_is g (suc (n / suc g)) (n % suc g) w.1 (n + suc g) (omega (arith, w))

-- no remainder exceeds the pivot g, so a higher one lowers as it does
pub lowered-top : (g n : ℕ) → lowered_coordinate g (suc g) n ≡ lowered_coordinate g g n
lowered-top g n =
    let l = (whole g n).1 in
    let above = below_stays (suc g) (n % suc g) (omega arith) in
    omega (arith, lowered-at g (suc g) n, lowered-at g g n, above, below_stays g (n % suc g) l)

-- from the last place of the first cell on it is g or more, where the remainder is not lowered
pub lowered-low : (g p n : ℕ) → g ≤ n → n % suc g ≤ p → g ≤ lowered_coordinate g p n
lowered-low g p n h l =
    omega (arith, lowered-at g p n, below_stays p (n % suc g) l, go (n / suc g) (whole g n).0)
  where
    go : (k : ℕ) → suc g * k + n % suc g ≡ n → g ≤ g * k + n % suc g
    go zero e = omega arith
    go (suc k) e = omega arith

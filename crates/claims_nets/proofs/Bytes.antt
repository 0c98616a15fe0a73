-- Orders as bytes: counts of bytes are counts of directions, and equal counts keep an order good.
use mathlib.Core.Bool.{Bool, cond, false, true}
use mathlib.Core.List.{List, [], ◌∷◌, map}
use mathlib.Core.Path.{◌∙◌, ◌≡◌, ap, ap₂, refl, subst, sym}
use Prim.Native.Nat.{◌<◌, ◌≤◌, suc, zero, ℕ}
use native.Mathlib.Omega.{arith}
use borrow.Author.Tests.{eq-eqb, eqb-true, le-ltb}
use lib.Dec.{eqb}
use lib.ListN.{get_or, length, length-map}
use Rattle.sums.proofs.Search.{first-nowhere, nowhere-first}
use Rattle.sums.specs.Search.{first, nowhere}
use Rattle.spline.proofs.Multiplicities.{counts-decide, order-degree}
use Rattle.spline.specs.Build.{direction}
use Rattle.spline.specs.Multiplicities.{count, degree, order_multiplicities, same_direction}
use Rattle.spline.specs.Place.{Direction, a1, a2, a3, along, diagonal}
use Rattle.orders.proofs.Orders.{good-byte}
use Rattle.orders.specs.Inner.GoodOrder.{GoodOrder}
use Rattle.orders.specs.Order.{bad_byte, order_checks}
use Rattle.claims_nets.specs.Nets.{count_byte}
use Rattle.checks.specs.Checks.{no_refusal}

-- ---- directions

byte_of : Direction → ℕ
byte_of (along a1) = 1
byte_of (along a2) = 2
byte_of (along a3) = 3
byte_of diagonal = 4

same_byte : (d : Direction) (x : ℕ) → 1 ≤ x → x ≤ 4 → same_direction d (direction x) ≡ eqb (byte_of d) x
unfolding byte_of
same_byte d zero l h = absurd (omega arith)
same_byte (along a1) (suc zero) l h = refl
same_byte (along a2) (suc zero) l h = refl
same_byte (along a3) (suc zero) l h = refl
same_byte diagonal (suc zero) l h = refl
same_byte (along a1) (suc (suc zero)) l h = refl
same_byte (along a2) (suc (suc zero)) l h = refl
same_byte (along a3) (suc (suc zero)) l h = refl
same_byte diagonal (suc (suc zero)) l h = refl
same_byte (along a1) (suc (suc (suc zero))) l h = refl
same_byte (along a2) (suc (suc (suc zero))) l h = refl
same_byte (along a3) (suc (suc (suc zero))) l h = refl
same_byte diagonal (suc (suc (suc zero))) l h = refl
same_byte (along a1) (suc (suc (suc (suc zero)))) l h = refl
same_byte (along a2) (suc (suc (suc (suc zero)))) l h = refl
same_byte (along a3) (suc (suc (suc (suc zero)))) l h = refl
same_byte diagonal (suc (suc (suc (suc zero)))) l h = refl
same_byte d (suc (suc (suc (suc (suc n))))) l h = absurd (omega arith)

-- an order's counts of directions are its counts of bytes
count-bytes : (d : Direction) (order : List ℕ)
    → ((i : ℕ) → i < length order → (1 ≤ get_or order i 0) × (get_or order i 0 ≤ 4))
    → count d (map direction order) ≡ count_byte (byte_of d) order
count-bytes d [] h = refl
count-bytes d (x ∷ order) h =
    let g = h 0 (omega arith) in
    ap₂ (λ (t : Bool) (n : ℕ). cond t (suc n) n)
    (same_byte d x g.0 g.1)
    (count-bytes d order (λ i l. h (suc i) (omega arith)))

-- ---- the bytes that an order has

more : (t : Bool) (n : ℕ) → 1 ≤ n → 1 ≤ cond t (suc n) n
more true n l = omega arith
more false n l = l

-- a byte of the order is counted
has-count : (order : List ℕ) (i : ℕ) → i < length order → 1 ≤ count_byte (get_or order i 0) order
has-count [] i l = absurd (omega arith)
has-count (x ∷ order) zero l = rw (eq-eqb x x refl) (omega arith)
has-count (x ∷ order) (suc i) l = more (eqb (get_or order i 0) x) _ (has-count order i (omega arith))

-- a byte that is counted stands somewhere
count-has : (b : ℕ) (order : List ℕ) → 1 ≤ count_byte b order
    → (i : ℕ) × (i < length order) × (get_or order i 0 ≡ b)
count-has b [] h = absurd (omega arith)
count-has b (x ∷ order) h = go (eqb b x) refl (λ k. count-has b order k)
  where
    go : (t : Bool) → eqb b x ≡ t
        → (1 ≤ count_byte b order → (i : ℕ) × (i < length order) × (get_or order i 0 ≡ b))
        → (i : ℕ) × (i < length (x ∷ order)) × (get_or (x ∷ order) i 0 ≡ b)
    go true e rest = (0, omega arith, sym (eqb-true b x e))
    go false e rest = let f = rest (rw e at h) in (suc f.0, omega (arith, f.1), f.2)

-- ---- equal counts

-- an order to which neither 1 nor 2 applies passes
pub order-passes : (order : List ℕ) → GoodOrder order → order_checks order ≡ no_refusal
unfolding order_checks
order-passes order good = simp (le-ltb 8 (length order) good.short, good.good)

module _ (order₁ order₂ : List ℕ) (good : GoodOrder order₁)
    (same : (b : ℕ) → count_byte b order₁ ≡ count_byte b order₂) where
  -- each byte of the second order stands in the first
  stands : (i : ℕ) → i < length order₂
      → (j : ℕ) × (j < length order₁) × (get_or order₁ j 0 ≡ get_or order₂ i 0)
  stands i l =
      count-has (get_or order₂ i 0) order₁
      (omega (arith, has-count order₂ i l, same (get_or order₂ i 0)))

  -- equal counts of bytes, equal multiplicities
  pub same-multiplicities : order_multiplicities order₂ ≡ order_multiplicities order₁
  same-multiplicities =
      counts-decide (map direction order₂) (map direction order₁) (λ d.
      count-bytes d order₂ range₂
      ∙ sym (same (byte_of d))
      ∙ sym (count-bytes d order₁ (good-byte order₁ good)))
    where
      range₂ : (i : ℕ) → i < length order₂ → (1 ≤ get_or order₂ i 0) × (get_or order₂ i 0 ≤ 4)
      range₂ i l =
          let f = stands i l in
          subst (λ (b : ℕ). (1 ≤ b) × (b ≤ 4)) f.2 (good-byte order₁ good f.0 f.1)

  -- neither 1 nor 2 applies to the second order
  pub same_good : GoodOrder order₂
  same_good = record { short = omega (arith, lengths, good.short); good = bytes }
    where
      lengths : length order₂ ≡ length order₁
      lengths =
          let m : degree (order_multiplicities order₂) ≡ degree (order_multiplicities order₁)
          = ap degree same-multiplicities in
          let l₁ = length-map order₁ direction in
          let l₂ = length-map order₂ direction in
          omega (arith, order-degree (map direction order₁), order-degree (map direction order₂))

      bytes : first (length order₂) (λ i. bad_byte (get_or order₂ i 0)) ≡ nowhere
      bytes =
          nowhere-first (λ i. bad_byte (get_or order₂ i 0)) (length order₂) (λ i l.
          let f = stands i l in
          ap bad_byte (sym f.2)
          ∙ first-nowhere (λ j. bad_byte (get_or order₁ j 0)) (length order₁) good.good f.0 f.1)

-- m × k + u, and the division that takes it apart again.
use mathlib.Core.Path.{◌∙◌, ◌≡◌, ap}
use Prim.Native.Nat.{◌%◌, ◌*◌, ◌+◌, ◌-◌, ◌/◌, ◌<◌, ◌≤◌, suc, ℕ}
use native.Mathlib.Nat.{add-zero, div-add-mod, div-eq_of_lt, mod-eq_of_lt, mod-lt}
use native.Mathlib.Nat.{mul-add-div, mul-add-mod_self_left, zero-lt-suc}
use native.Mathlib.Omega.{arith}
use lib.IntN.{*ℤ_comm, +ℤ_assoc, +ℤ-suc_ℤ, ◌*ℤ◌, ◌+ℤ◌, negsuc, neg_ℤ, pos, suc_ℤ, suc_ℤ-*ℤ, ℤ}
use Rattle.sums.proofs.Cases.{by-ltb}
use Rattle.spline.specs.Place.{compose, floor_div, floor_mod}

-- ---- m × k + u
-- one more in the remainder is one more
pub compose-suc : (m : ℕ) (k : ℤ) (u : ℕ) → compose m k (suc u) ≡ suc_ℤ (compose m k u)
compose-suc m k u = +ℤ-suc_ℤ (pos m *ℤ k) (pos u)

-- a cell more is m more in the remainder
pub compose-carry : (m : ℕ) (k : ℤ) (u : ℕ) → compose m (suc_ℤ k) u ≡ compose m k (m + u)
compose-carry m k u =
    let carried : pos m *ℤ suc_ℤ k ≡ pos m *ℤ k +ℤ pos m
    = *ℤ_comm (pos m) (suc_ℤ k)
    ∙ suc_ℤ-*ℤ k (pos m)
    ∙ ap (λ (z : ℤ). z +ℤ pos m) (*ℤ_comm k (pos m)) in
    ap (λ (z : ℤ). z +ℤ pos u) carried ∙ +ℤ_assoc (pos m *ℤ k) (pos m) (pos u)

compose-neg : (g : ℕ) (k u : ℕ) → u ≤ g → compose (suc g) (negsuc k) u ≡ negsuc (suc g * k + (g - u))
compose-neg g k u h =
    ap (λ (n : ℕ). neg_ℤ (pos n) +ℤ pos u) e
    ∙ by-ltb (λ (z : ℤ). z ≡ negsuc (suc g * k + (g - u))) u (suc X)
    (negsuc (suc X - suc u)) (pos (u - suc X))
    (λ l. ap negsuc a1) (λ l. absurd (a2 l))
  where
    X : ℕ
    X = suc g * k + g

    e : suc g * suc k ≡ suc X
    e = omega arith

    a1 : suc X - suc u ≡ suc g * k + (g - u)
    a1 = omega arith

    a2 : suc X ≤ u → ⊥
    a2 l = omega arith

-- ---- division
-- the cell and the remainder of a number make it up again
pub compose-div-mod : (g : ℕ) (q : ℤ) → compose (suc g) (floor_div (suc g) q) (floor_mod (suc g) q) ≡ q
compose-div-mod g (pos n) = ap pos (div-add-mod n (suc g))
compose-div-mod g (negsuc n) =
    ap (compose (suc g) (negsuc (n / suc g))) e
    ∙ compose-neg g (n / suc g) (g - n % suc g) l1
    ∙ ap negsuc l2
  where
    e : suc g - suc (n % suc g) ≡ g - n % suc g
    e = omega arith

    l1 : g - n % suc g ≤ g
    l1 = omega arith

    l2 : suc g * (n / suc g) + (g - (g - n % suc g)) ≡ n
    l2 = omega (arith, mod-lt n (zero-lt-suc g), div-add-mod n (suc g))

quotient : (g k u : ℕ) → u < suc g → (suc g * k + u) / suc g ≡ k
quotient g k u h =
    mul-add-div (zero-lt-suc g) k u
    ∙ ap (λ (n : ℕ). k + n) (div-eq_of_lt h)
    ∙ add-zero k

-- a remainder is below the divisor
pub mod_below : (g : ℕ) (q : ℤ) → floor_mod (suc g) q < suc g
mod_below g (pos n) = mod-lt n (zero-lt-suc g)
mod_below g (negsuc n) = omega arith

-- m × k + u has the cell k, for u below m
pub div-compose : (g : ℕ) (k : ℤ) (u : ℕ) → u < suc g → floor_div (suc g) (compose (suc g) k u) ≡ k
div-compose g (pos k) u h = ap pos (quotient g k u h)
div-compose g (negsuc k) u h =
    ap (floor_div (suc g)) (compose-neg g k u (omega arith))
    ∙ ap negsuc (quotient g k (g - u) (omega arith))

-- and the remainder u
pub mod-compose : (g : ℕ) (k : ℤ) (u : ℕ) → u < suc g → floor_mod (suc g) (compose (suc g) k u) ≡ u
mod-compose g (pos k) u h = mul-add-mod_self_left (suc g) k u ∙ mod-eq_of_lt h
mod-compose g (negsuc k) u h =
    ap (floor_mod (suc g)) (compose-neg g k u (omega arith))
    ∙ ap (λ (n : ℕ). suc g - suc n) (mul-add-mod_self_left (suc g) k (g - u) ∙ mod-eq_of_lt l)
    ∙ l2
  where
    l : g - u < suc g
    l = omega arith

    l2 : suc g - suc (g - u) ≡ u
    l2 = omega arith

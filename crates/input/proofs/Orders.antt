-- Orders as they are typed.
use mathlib.Core.Bool.{Bool, cond, false, true}
use mathlib.Core.List.{List, [], ◌++◌, ◌∷◌, map, map-append}
use mathlib.Core.Path.{◌∙◌, ◌≡◌, ap, refl, sym}
use Prim.Native.Nat.{◌+◌, ◌-◌, ◌≤◌, suc, zero, ℕ}
use native.Mathlib.Omega.{arith}
use lib.Dec.{eqb}
use lib.ListN.{get_or, length, length-map, take}
use lib.Seq.{length-take-le, take-suc}
use Rattle.sums.specs.Fill.{tabulate}
use Rattle.input.specs.Order.{digit_number, order_length, typed_order}

-- of no bytes none are the order's
pub order-length-none : (s : List ℕ) → length s ≡ 0 → order_length s ≡ 0
unfolding order_length
order-length-none [] h = refl
order-length-none (a ∷ s) h = absurd (omega arith)

-- an order is all of what is typed, or all but the last byte
pub record Bounds (s : List ℕ) : Type 0 where
  pub most : order_length s ≤ length s
  pub least : length s ≤ order_length s + 1

-- so it is
pub order-bounds : (s : List ℕ) → Bounds s
unfolding order_length
order-bounds s = go (eqb (get_or s (length s - 1) 0) 10) refl
  where
    go : (t : Bool) → order_length s ≡ cond t (length s - 1) (length s) → Bounds s
    go true e = record { most = omega arith; least = omega arith }
    go false e = record { most = omega arith; least = omega arith }

-- a typed order has as many numbers as bytes
pub order-length : (s : List ℕ) → length (typed_order s) ≡ order_length s
unfolding typed_order
order-length s =
    length-map (take (order_length s) s) digit_number
    ∙ length-take-le (order_length s) s (order-bounds s).most

-- the numbers of the first n typed bytes, as a filling loop makes them
pub numbers-typed : (s : List ℕ) (n : ℕ) → n ≤ length s
    → tabulate (λ i. digit_number (get_or s i 0)) n ≡ map digit_number (take n s)
unfolding tabulate
numbers-typed s zero h = refl
numbers-typed s (suc n) h =
    ap (λ (l : List ℕ). l ++ (digit_number (get_or s n 0) ∷ [])) (numbers-typed s n (omega arith))
    ∙ sym (ap (map digit_number) (take-suc s n 0 h) ∙ map-append digit_number (take n s) (get_or s n 0 ∷ []))

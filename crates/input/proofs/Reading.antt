-- Typed bytes that are read one by one: where no more are wanted they are enough, and reading ends.
use mathlib.Core.Bool.{Bool, cond, false, true}
use mathlib.Core.List.{List, [], ◌++◌, ◌∷◌}
use mathlib.Core.Path.{◌≡◌, ap}
use Prim.Native.Nat.{◌-◌, ◌<◌, ◌≤◌, ℕ}
use native.Mathlib.Omega.{arith}
use borrow.Author.Tests.{ltb-false, ltb-true}
use lib.ListN.{length, length-append}
use Rattle.input.proofs.Orders.{order-bounds}
use Rattle.input.specs.Order.{order_length}
use Rattle.input.specs.Reading.{wants_more, with_byte}

-- ---- enough
-- where no more are wanted, the order is longer than eight, whatever else is typed after them
pub enough-typed : (s t : List ℕ) → wants_more s ≡ false → length s ≤ length t → 8 < order_length t
unfolding wants_more
enough-typed s t e h =
    let b = order-bounds t in
    omega (arith, ltb-false (length s) _ e)

-- ---- a byte more
-- one that is wanted is put after the others
pub with-wanted : (s : List ℕ) (b : ℕ) → wants_more s ≡ true → with_byte s b ≡ s ++ (b ∷ [])
unfolding with_byte
with-wanted s b e = ap (λ (t : Bool). cond t (s ++ (b ∷ [])) s) e

-- one that is not is left out
pub with-unwanted : (s : List ℕ) (b : ℕ) → wants_more s ≡ false → with_byte s b ≡ s
unfolding with_byte
with-unwanted s b e = ap (λ (t : Bool). cond t (s ++ (b ∷ [])) s) e

-- how many bytes more are wanted at most
unfoldable pub left : List ℕ → ℕ
left s = 10 - length s

-- a byte that is wanted leaves fewer
pub fewer-left : (s : List ℕ) (b : ℕ) → wants_more s ≡ true → left (with_byte s b) < left s
unfolding wants_more left
fewer-left s b e =
    omega (arith, ltb-true (length s) _ e, ap length (with-wanted s b e), length-append s (b ∷ []))

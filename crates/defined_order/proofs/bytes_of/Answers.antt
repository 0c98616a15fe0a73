-- Each call of the closure reads the same counts, and gives the byte at its number.
use mathlib.Core.List.{List}
use mathlib.Core.Path.{◌∙◌, ◌≡◌, refl, sym}
use Prim.Native.Nat.{◌+◌, ◌<◌, ◌≤◌, suc, zero, ℕ}
use native.Mathlib.Omega.{arith}
use denote.Param.Members.{Called, Mut}
use lib.ListN.{get_or}
use lib.Seq.{ext_get_or}
use Rattle.std.proofs.Common.{rules}
use Rattle.std.specs.Array.{IsFromFnResult, IsFromFnResultFrom}
use Rattle.sums.proofs.Cases.{by_order}
use Rattle.sums.proofs.Fill.{length-tabulate, tabulate-at}
use Rattle.sums.specs.Fill.{tabulate}
use Rattle.shape.specs.Shape.{counted}
use Rattle.defined_order.specs.Bytes.{defined_byte}
use Rattle.defined_order.proofs.bytes_of.Goals as goal

-- calls of which each gives f of its number, where what holds of the closure stays
module _ {F : Type 0} (g : Mut F (ℕ × Unit {0}) ℕ) (f : ℕ → ℕ) (P : F → Type 0)
    (step : (p : F) (x y : ℕ) (q : F) → P p → Called g p (x, tt) y q → (y ≡ f x) × P q) where
  each : (p : F) (ys : List ℕ) (i n : ℕ) → P p → IsFromFnResultFrom g p ys i n
      → (k : ℕ) → i ≤ k → k < i + n → get_or ys k 0 ≡ f k
  each p ys i zero h r k a b = absurd (omega arith)
  each p ys i (suc n) h r k a b =
      let s = step p i r.1 r.0 h r.3 in
      by_order i k
      (λ l. each r.0 ys (i + 1) n s.1 r.4 k (omega arith) (omega arith))
      (λ l. let e : k ≡ i = omega arith in rw e (r.2.1 0 ∙ s.0))

  made : (p : F) (ys : List ℕ) (n : ℕ) → P p → IsFromFnResult g p ys n → ys ≡ tabulate f n
  made p ys n h r =
      ext_get_or 0 ys (tabulate f n) (r.long ∙ sym (length-tabulate f n))
      (λ k l. let b : k < n = omega (arith, r.long) in
      each p ys 0 n h r.each k (omega arith) (omega arith) ∙ sym (tabulate-at f n k 0 b))

pub returns : goal.returns
returns c =
    made _ (defined_byte (counted c.args.c)) (λ p. p.0 ≡ c.args.c) (λ p x y q h k. search rules)
    _ c.from_fn.result 8 refl c.from_fn.ensures.items

-- The table's rule: each of its numbers is the defined net's. One equation of lists, which is computed, says
-- so of the whole table.
use mathlib.Core.List.{List, [], ◌∷◌}
use mathlib.Core.Path.{◌∙◌, ◌≡◌, ap, refl, sym}
use Prim.Native.Nat.{ℕ, zero, suc, ◌+◌, ◌<◌}
use native.Mathlib.Omega.{arith}
use lib.ListN.{get_or}
use Rattle.spline.specs.Box.{defined_number}
use Rattle.spline.specs.Build.{built, simple, stepped, sum_back}
use Rattle.spline.specs.Defined.{defined, defined_order}
use Rattle.spline.specs.Multiplicities.{multiplicities}
use Rattle.spline.specs.Rule.{lower_above}
use Rattle.factory_net.proofs.Numbers.{numbers}

-- the defined net's number at an index
abbrev number : ℕ → ℕ
number = defined_number (multiplicities 2 2 2 1)

-- f i, f (i + 1), .., n of them, made from the first on: so they are compared with a table one by one, where
-- `tabulate`, which appends the last, would first be made whole
unfoldable values : (ℕ → ℕ) → ℕ → ℕ → List ℕ
values f i zero = []
values f i (suc n) = f i ∷ values f (suc i) n

values-at : (f : ℕ → ℕ) (n i k : ℕ) → k < n → get_or (values f i n) k 0 ≡ f (i + k)
unfolding values
values-at f zero i k h = absurd (omega arith)
values-at f (suc n) i zero h = ap f (omega arith)
values-at f (suc n) i (suc k) h = values-at f n (suc i) k (omega arith) ∙ ap f (omega arith)

-- the computed test
computed : values number 0 2197 ≡ numbers
unfolding built defined defined_order lower_above numbers simple stepped sum_back values
computed = refl

-- at each index of the box the table has the defined net's number
pub record Right (table : List ℕ) : Type 0 where
  pub rule : (i : ℕ) → i < 2197 → get_or table i 0 ≡ number i

-- so has a table of these numbers
pub right_by : (table : List ℕ) → numbers ≡ table → Right table
right_by table e = record {
  rule = λ i h.
      ap (λ (l : List ℕ). get_or l i 0) (sym (computed ∙ e))
      ∙ values-at number 2197 0 i h
      ∙ ap number (omega arith);
}

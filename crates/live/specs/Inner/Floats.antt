-- Floats that stand for whole numbers, as the functions that sum them promise and ask for them.
use Rattle.std.specs.Prelude.{◌≡◌, ◌^◌, ◌≤◌, ℕ, Float, pos}
use Rattle.axis_order.specs.declared.Placing.{Placing}
use Rattle.floats.specs.Floats.{float}

-- x is the powers of l in floats, as far as the n-th
abbrev pub FloatPowers : ℕ → ℕ → (ℕ → Float) → Type 0
FloatPowers n l x = (i : ℕ) → i ≤ n → x i ≡ float (pos (l ^ i))

-- the powers of L0 to L3
pub record FloatTables (m : ℕ) (q : Placing) (x0 x1 x2 x3 : ℕ → Float) : Type 0 where
  pub of0 : FloatPowers m q.l0 x0
  pub of1 : FloatPowers m q.l1 x1
  pub of2 : FloatPowers m q.l2 x2
  pub of3 : FloatPowers m q.l3 x3

-- Tests of every number below n, and the lowest number that passes one: Section 1.3.
use Rattle.std.specs.Prelude.{Bool, ◌&&◌, cond, true, suc, zero, ℕ}

-- p holds of every number below n
unfoldable pub all_to : ℕ → (ℕ → Bool) → Bool
all_to zero p = true
all_to (suc n) p = all_to n p && p n

pub data Found : Type 0 where
  nowhere : Found
  at : ℕ → Found

abbrev pub or_else : Found → Found → Found
or_else nowhere g = g
or_else (at i) g = at i

-- the lowest number below n of which p holds
unfoldable pub first : ℕ → (ℕ → Bool) → Found
first zero p = nowhere
first (suc n) p = or_else (first n p) (cond (p n) (at n) nowhere)

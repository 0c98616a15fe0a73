-- Definitions by a test, taken apart.
use mathlib.Core.Bool.{Bool, cond, false, not, true}
use Prim.Native.Nat.{◌<◌, ◌≤◌, ℕ}
use native.Mathlib.Decide.{dec_lt}
use native.Mathlib.Omega.{arith}
use lib.Dec.{T, ltb, ltb→lt, nltb→le}

-- a Boolean test, by cases that keep what it says
pub by-test {ℓ} : {A : Type ℓ} (P : A → Type 0) (c : Bool) (x y : A)
    → (T c → P x) → (T (not c) → P y) → P (cond c x y)
by-test P true x y f g = f tt
by-test P false x y f g = g tt

-- the test of a below b
pub by-ltb : {A : Type 0} (P : A → Type 0) (a b : ℕ) (x y : A)
    → (a < b → P x) → (b ≤ a → P y) → P (cond (ltb a b) x y)
by-ltb P a b x y f g = by-test P (ltb a b) x y (λ t. f (ltb→lt a b t)) (λ t. g (nltb→le a b t))

-- two numbers, one below the other or not
pub by_order {ℓ} : {A : Type ℓ} (a b : ℕ) → (a < b → A) → (b ≤ a → A) → A
by_order {A = A} a b f g = go (dec_lt a b)
  where
    go : Dec (a < b) → A
    go (yes l) = f l
    go (no n) = g (omega arith)

-- A nested search step by step.
use mathlib.Core.Logic.{⊎_elim}
use mathlib.Core.Path.{◌≡◌, refl}
use Prim.Native.Nat.{◌+◌, ◌<◌, ◌≤◌, suc, zero, ℕ}
use native.Mathlib.Nat.{le-suc_iff}
use native.Mathlib.Numerals.{add-one}
use native.Mathlib.Omega.{arith}
use Rattle.sums.specs.Search.{Found, at, nowhere}
use Rattle.blending.specs.Inner.Search.{first_of}

module _ (f : ℕ → Found) where
  -- a search of nothing finds nothing
  pub first-of-none : first_of 0 f ≡ nowhere
  unfolding first_of
  first-of-none = refl

  -- a search that has found nothing yet, and finds nothing here, goes on
  pub first-of-next : (i : ℕ) → first_of i f ≡ nowhere → f i ≡ nowhere → first_of (i + 1) f ≡ nowhere
  unfolding first_of
  first-of-next i h k = rw (add-one i) (rw (h, k) refl)

  -- what it finds here is what the whole search finds
  pub first-of-hit : (n i j : ℕ) → first_of i f ≡ nowhere → f i ≡ at j → i < n → first_of n f ≡ at j
  unfolding first_of
  first-of-hit zero i j h k l = absurd (omega arith)
  first-of-hit (suc n) i j h k l = ⊎_elim
      (λ (s : suc i ≤ n). rw (first-of-hit n i j h k s) refl)
      (λ (e : suc i ≡ suc n). let e' : i ≡ n = omega arith in rw (← e', h, k) refl)
      (le-suc_iff.0 l)

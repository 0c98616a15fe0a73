-- A check of all entries, made entry by entry.
use mathlib.Core.Bool.{Bool, cond, false, true}
use mathlib.Core.Path.{◌≡◌, refl}
use Prim.Native.Nat.{◌+◌, ℕ}
use native.Mathlib.Numerals.{add-one}
use Rattle.sums.specs.Search.{Found, at, first, nowhere, or_else}
use Rattle.checks.specs.Checks.{Checked, and_then, no_refusal, refuse_at}
use Rattle.checks.specs.declared.Refusal.{Refusal}
use Rattle.std.specs.Prelude.{Err}

-- the check by a search for what is refused so
module _ (refusal : ℕ → Refusal) where
  abbrev up_to : ℕ → (ℕ → Bool) → Checked
  up_to n p = refuse_at refusal (first n p) no_refusal

  -- of no entry
  pub none_yet : (p : ℕ → Bool) → no_refusal ≡ up_to 0 p
  unfolding first
  none_yet p = refl

  -- of one entry more, by the check of that entry alone
  pub one_more : (i : ℕ) (p : ℕ → Bool) (b : Bool) (before here : Checked) → b ≡ p i → before ≡ up_to i p
      → here ≡ cond b (Err (refusal i)) no_refusal → and_then before here ≡ up_to (i + 1) p
  unfolding first
  one_more i p b before here e f h = rw (f, h, e, add-one i) (joined (first i p) (p i))
    where
      joined : (f : Found) (b : Bool)
          → and_then (refuse_at refusal f no_refusal) (cond b (Err (refusal i)) no_refusal)
          ≡ refuse_at refusal (or_else f (cond b (at i) nowhere)) no_refusal
      joined nowhere true = refl
      joined nowhere false = refl
      joined (at j) b = refl

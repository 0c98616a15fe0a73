-- The search for a gap, through the window in the order of the block's index.
use Rattle.std.specs.Prelude.{cond, suc, zero, ℕ, ℤ}
use Rattle.sums.specs.Search.{Found, at, nowhere, or_else}
use Rattle.unit.specs.Gaps.{is_gap}
use Rattle.frame.specs.declared.Frame.{Frame}
use Rattle.blending.specs.Inner.Frame.{entry_at}

-- the first of f 0, .., f (n − 1) that is somewhere
unfoldable pub first_of : ℕ → (ℕ → Found) → Found
first_of zero f = nowhere
first_of (suc n) f = or_else (first_of n f) (f n)

module _ (corrections : ℕ → ℤ) (f : Frame) where
  abbrev pub entry_gap : ℕ → ℕ → ℕ → Found
  entry_gap x y z = cond (is_gap (corrections (entry_at f x y z))) (at (entry_at f x y z)) nowhere

  abbrev pub row_gap : ℕ → ℕ → Found
  row_gap y z = first_of f.e1 (λ x. entry_gap x y z)

  abbrev pub layer_gap : ℕ → Found
  layer_gap z = first_of f.e2 (λ y. row_gap y z)

  unfoldable pub window_gaps : Found
  window_gaps = first_of f.e3 layer_gap

-- The loops over some places of a row: each turn writes the sum of the entry and of a number found before it.
use mathlib.Core.List.{List}
use mathlib.Core.Path.{◌∙◌, ◌≡◌, ap, sym}
use Prim.Native.Nat.{◌+◌, ◌<◌, ◌≤◌, ℕ}
use lib.IntN.{◌+ℤ◌, pos, ℤ}
use lib.ListN.{get_or, length, set}
use Rattle.sums.proofs.Fill.{fill-store, filled_at}
use Rattle.sums.specs.Fill.{filled}
use Rattle.sums.specs.Word.{word}
use Rattle.summations.specs.Inner.Rows.{RowSums}

module _ {prior : (ℕ → ℕ) → ℕ → ℕ} {a e : ℕ} {work : List ℤ} {net₀ : List ℕ}
    (r : RowSums prior a e work net₀) {net : List ℕ} {i : ℕ} (holds : net ≡ filled r.number i net₀) where
  -- a number that was written before
  pub found : (k : ℕ) → k < i → get_or net k 0 ≡ r.number k
  found k l = ap (λ (w : List ℕ). get_or w k 0) holds ∙ filled_at r.number i net₀ k 0 l

  -- a turn: n is found, and its sum with the entry written
  module _ (low : a ≤ i) (l : i < e) (n v : ℕ) (en : n ≡ prior r.number i)
      (ev : v ≡ word (pos n +ℤ get_or work i (pos 0))) where
    -- it is the number at i
    pub summed : v ≡ r.number i
    summed = ev ∙ rw en (sym (r.sums i low l))

    -- so the loop comes one place on
    pub turned : (net' : List ℕ) → net' ≡ set net i v → i < length net₀ → net' ≡ filled r.number (i + 1) net₀
    turned net' h room =
        h
        ∙ ap (λ (w : List ℕ). set w i v) holds
        ∙ fill-store r.number i net₀ v room summed

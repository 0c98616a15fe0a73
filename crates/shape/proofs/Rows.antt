-- Rows and layers of a box within the limits, and lists that are filled row by row.
use mathlib.Core.List.{List}
use mathlib.Core.Path.{◌∙◌, ◌≡◌, ap, refl, sym}
use Prim.Native.Nat.{◌*◌, ◌+◌, ◌<◌, ◌≤◌, suc, ℕ}
use native.Mathlib.Nat.{le_antisymm, mul-le-mul, mul-le-mul_left}
use native.Mathlib.Omega.{arith}
use lib.ListN.{length}
use Rattle.sums.proofs.Fill.{fill_none, length-filled, rebase-in, rebase-out}
use Rattle.sums.specs.Fill.{filled}

-- where a row starts, and the product on the way, fit a machine number
pub row-bounds : (y z w1 w2 : ℕ) → y ≤ 91 → z ≤ 91 → w1 ≤ 91 → w2 ≤ 91
    → (w2 * z ≤ 8281) × (w1 * (y + w2 * z) ≤ 761852)
row-bounds y z w1 w2 hy hz h1 h2 =
    let p : w2 * z ≤ 91 * 91 = mul-le-mul h2 hz in
    (omega arith, mul-le-mul {m₂ = 8372} h1 (omega arith))

-- the end of a row is within the box
pub row_within : (w1 w2 w3 y z : ℕ) → y < w2 → z < w3 → w1 * (y + 1 + w2 * z) ≤ w1 * w2 * w3
row_within w1 w2 w3 y z hy hz =
    let p : w2 * suc z ≤ w2 * w3 = mul-le-mul_left w2 hz in
    let q : w1 * (y + 1 + w2 * z) ≤ w1 * (w2 * w3) = mul-le-mul_left w1 (omega arith) in
    omega arith

-- ---- a list over a box that is filled with f row by row

-- so far up to the row y of the layer z
pub record Filled {A : Type 0} (f : ℕ → A) (w1 w2 w3 : ℕ) (base l : List A) (y z : ℕ) : Type 0 where
  pub row : y ≤ w2
  pub layer : z ≤ w3
  pub same : length l ≡ length base
  pub holds : l ≡ filled f (w1 * (y + w2 * z)) base

module _ {A : Type 0} {f : ℕ → A} {w1 w2 w3 : ℕ} {base : List A} where
  -- at first nothing is
  pub none_filled : Filled f w1 w2 w3 base base 0 0
  none_filled =
      let e : 0 ≡ w1 * (0 + w2 * 0) = omega arith in
      record {
        row = omega arith;
        layer = omega arith;
        same = refl;
        holds = sym (fill_none f base) ∙ ap (λ (n : ℕ). filled f n base) e;
      }

  module _ {l : List A} {y z : ℕ} (h : Filled f w1 w2 w3 base l y z) where
    -- in itself it is so too
    pub self-filled : l ≡ filled f (w1 * (y + w2 * z)) l
    self-filled = rebase-in f base l (w1 * (y + w2 * z)) h.holds

    -- a row more
    pub row-filled : y < w2 → z < w3 → w1 * w2 * w3 ≤ length base
        → (r : List A) → r ≡ filled f (w1 * (y + 1 + w2 * z)) l → Filled f w1 w2 w3 base r (y + 1) z
    row-filled hy hz room r e =
        let n = w1 * (y + w2 * z) in
        let k = w1 * (y + 1 + w2 * z) in
        let up : n ≤ k = mul-le-mul_left w1 (omega arith) in
        let on = rebase-out f base l n h.holds r k up e in
        let within_box = row_within w1 w2 w3 y z hy hz in
        record {
          row = omega arith;
          layer = omega arith;
          same = ap length on ∙ length-filled f k base (omega arith);
          holds = on;
        }

    -- all rows of a layer
    pub layer-filled : w2 ≤ y → z < w3 → Filled f w1 w2 w3 base l 0 (z + 1)
    layer-filled hy hz =
        let e : y ≡ w2 = le_antisymm h.row hy in
        let n : w1 * (w2 + w2 * z) ≡ w1 * (0 + w2 * (z + 1)) = omega arith in
        record {
          row = omega arith;
          layer = omega arith;
          same = h.same;
          holds = h.holds
              ∙ ap (λ (k : ℕ). filled f (w1 * (k + w2 * z)) base) e
              ∙ ap (λ (k : ℕ). filled f k base) n;
        }

  -- all layers
  pub box-filled : {l : List A} {z : ℕ} → Filled f w1 w2 w3 base l 0 z → w3 ≤ z
      → l ≡ filled f (w1 * w2 * w3) base
  box-filled {z = z} h hz =
      let e : z ≡ w3 = le_antisymm h.layer hz in
      let n : w1 * (0 + w2 * w3) ≡ w1 * w2 * w3 = omega arith in
      h.holds
      ∙ ap (λ (k : ℕ). filled f (w1 * (0 + w2 * k)) base) e
      ∙ ap (λ (k : ℕ). filled f k base) n

-- Indices x + w1 (y + w2 z) of the places of a box, and the places back from them.
use mathlib.Core.Path.{◌∙◌, ◌≡◌, ap}
use Prim.Native.Nat.{◌%◌, ◌*◌, ◌+◌, ◌/◌, ◌<◌, ◌≤◌, suc, zero, ℕ}
use native.Mathlib.Nat.{add-mul-div_left, add-mul-mod_self_left, div-eq_of_lt, div-lt_iff_lt-mul, mod-add-div}
use native.Mathlib.Nat.{mod-eq_of_lt, mod-lt, mul-le-mul, mul-le-mul_left, zero-add}
use native.Mathlib.Omega.{arith}

-- a place of a sheet has its index within it
pub sheet-index-in : (w n x y : ℕ) → x < w → y < n → x + w * y < w * n
sheet-index-in w n x y hx hy = let p : w * suc y ≤ w * n = mul-le-mul_left w hy in omega arith

-- so has a place of a box
pub index_in : (w1 w2 w3 x y z : ℕ) → x < w1 → y < w2 → z < w3 → x + w1 * (y + w2 * z) < w1 * w2 * w3
index_in w1 w2 w3 x y z hx hy hz =
    let row : y + w2 * z < w2 * w3 = sheet-index-in w2 w3 y z hy hz in
    omega (arith, sheet-index-in w1 (w2 * w3) x (y + w2 * z) hx row)

-- a box within a box
pub box-le : {w1 w2 w3 n1 n2 n3 : ℕ} → w1 ≤ n1 → w2 ≤ n2 → w3 ≤ n3 → w1 * w2 * w3 ≤ n1 * n2 * n3
box-le h1 h2 h3 = mul-le-mul (mul-le-mul h1 h2) h3

-- the index past a row is the next row's first
pub next_row : (w1 w2 y z : ℕ) → w1 + w1 * (y + w2 * z) ≡ w1 * (y + 1 + w2 * z)
next_row w1 w2 y z = omega arith

-- and past a layer the next layer's
pub next-layer : (w1 w2 z : ℕ) → w1 * (w2 + w2 * z) ≡ w1 * (w2 * (z + 1))
next-layer w1 w2 z = omega arith

-- the place of an index
module _ (w1 w2 x y z : ℕ) (hx : x < w1) (hy : y < w2) where
  row : (x + w1 * (y + w2 * z)) / w1 ≡ y + w2 * z
  row =
      add-mul-div_left x (y + w2 * z) (omega arith)
      ∙ ap (λ (k : ℕ). k + (y + w2 * z)) (div-eq_of_lt hx)
      ∙ zero-add (y + w2 * z)

  -- its x
  pub place-x : (x + w1 * (y + w2 * z)) % w1 ≡ x
  place-x = add-mul-mod_self_left x w1 (y + w2 * z) ∙ mod-eq_of_lt hx

  -- its y
  pub place-y : (x + w1 * (y + w2 * z)) / w1 % w2 ≡ y
  place-y =
      ap (λ (k : ℕ). k % w2) row
      ∙ add-mul-mod_self_left y w2 z
      ∙ mod-eq_of_lt hy

  -- its z
  pub place-z : (x + w1 * (y + w2 * z)) / w1 / w2 ≡ z
  place-z =
      ap (λ (k : ℕ). k / w2) row
      ∙ add-mul-div_left y z (omega arith)
      ∙ ap (λ (k : ℕ). k + z) (div-eq_of_lt hy)
      ∙ zero-add z

-- an index is that of its place
pub index_back : (w1 w2 i : ℕ) → i % w1 + w1 * (i / w1 % w2 + w2 * (i / w1 / w2)) ≡ i
index_back w1 w2 i = ap (λ (q : ℕ). i % w1 + w1 * q) (mod-add-div (i / w1) w2) ∙ mod-add-div i w1

factors-pos : (a b i : ℕ) → i < a * b → (0 < a) × (0 < b)
factors-pos zero b i h = absurd (omega arith)
factors-pos (suc a) zero i h = absurd (omega arith)
factors-pos (suc a) (suc b) i h = (omega arith, omega arith)

-- and that place is within the box
pub place_in : (w1 w2 w3 i : ℕ) → i < w1 * w2 * w3 → (i % w1 < w1) × (i / w1 % w2 < w2) × (i / w1 / w2 < w3)
place_in w1 w2 w3 i h =
    let p = factors-pos w1 w2 0 (factors-pos (w1 * w2) w3 i h).0 in
    let q : i / w1 < w3 * w2 = (div-lt_iff_lt-mul p.0).1 (omega arith) in
    (mod-lt i p.0, mod-lt (i / w1) p.1, (div-lt_iff_lt-mul p.1).1 q)

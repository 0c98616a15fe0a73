-- A weight in floats: powers, factors and their product.
use mathlib.Core.Path.{◌∙◌, ◌≡◌, ap}
use Prim.Native.Nat.{◌*◌, ◌+◌, ◌^◌, ◌≤◌, ℕ}
use native.Mathlib.Nat.{pow-suc}
use native.Mathlib.Numerals.{add-one}
use native.Mathlib.Omega.{arith}
use lib.Ieee.{Float, binary64, mul}
use lib.IntN.{pos}
use Rattle.floats.proofs.Whole.{mul-nat}
use Rattle.floats.specs.Floats.{exact, float}

-- two floats multiply as their numbers do
pub float_mul : {x y : Float} (a b : ℕ) → a ≤ exact → b ≤ exact → x ≡ float (pos a) → y ≡ float (pos b)
    → mul binary64 x y ≡ float (pos (a * b))
float_mul a b ha hb ex ey = rw (ex, ey) (mul-nat binary64 a b ha hb)

-- one power more
pub float-power : {x y : Float} (l i : ℕ) → l ^ i ≤ exact → l ≤ exact → x ≡ float (pos (l ^ i))
    → y ≡ float (pos l) → mul binary64 x y ≡ float (pos (l ^ (i + 1)))
float-power l i hp hl ex ey =
    float_mul (l ^ i) l hp hl ex ey ∙ rw (add-one i, pow-suc l i) (ap (λ n. float (pos n)) (omega arith))

-- four factors, multiplied one after the other
pub float-product : {x y z u : Float} (a b c d : ℕ) → a ≤ exact → b ≤ exact → c ≤ exact → d ≤ exact
    → a * b ≤ exact → a * b * c ≤ exact
    → x ≡ float (pos a) → y ≡ float (pos b) → z ≡ float (pos c) → u ≡ float (pos d)
    → mul binary64 (mul binary64 (mul binary64 x y) z) u ≡ float (pos (a * b * c * d))
float-product a b c d ha hb hc hd hab habc ex ey ez eu =
    float_mul (a * b * c) d habc hd (float_mul (a * b) c hab hc (float_mul a b ha hb ex ey) ez) eu

-- A net that is 0 where a coordinate is not positive; a repeat keeps this.
use mathlib.Core.Bool.{Bool, false, true}
use mathlib.Core.List.{List, [], ◌∷◌}
use mathlib.Core.Path.{◌≡◌, refl}
use Prim.Native.Nat.{◌%◌, ◌*◌, ◌-◌, ◌/◌, ◌≤◌, suc, zero, ℕ}
use native.Mathlib.Nat.{zero-div, zero-mod}
use native.Mathlib.Omega.{arith}
use lib.IntN.{◌+ℤ◌, negsuc, neg_ℤ, pos, ℤ}
use Rattle.sums.proofs.Cases.{by-ltb}
use Rattle.spline.proofs.Lowering.{lower_above-le}
use Rattle.spline.specs.Build.{built, is_one, lowered_place, simple, stepped, sum_back}
use Rattle.spline.specs.Place.{Axis, Direction, Net, Place, ◌⊖◌, a1, a2, a3, along, diagonal, moves}
use Rattle.spline.specs.Place.{compose, down_if, floor_div, floor_mod}
use Rattle.spline.specs.Rule.{lowered, remainder}

-- at most 0
abbrev pub Low : ℤ → Type 0
Low (pos n) = n ≡ 0
Low (negsuc n) = Unit {0}

-- C is 0 where a coordinate is at most 0
pub record ZeroLow (C : Net) : Type 0 where
  pub zero_low : (q : Place) (b : Axis) → Low (q b) → C q ≡ 0

-- ---- low coordinates
-- a step back from one is one
pub low-down : (h : Bool) (z : ℤ) → Low z → Low (down_if h z)
low-down true (pos zero) l = tt
low-down true (pos (suc n)) l = omega arith
low-down true (negsuc n) l = tt
low-down false z l = l

-- −n + w is one, for w up to n
pub low-neg : (n w : ℕ) → w ≤ n → Low (neg_ℤ (pos n) +ℤ pos w)
low-neg zero w h = omega arith
low-neg (suc n) w h =
    by-ltb Low w (suc n) (negsuc (suc n - suc w)) (pos (w - suc n)) (λ l. tt) (λ l. omega arith)

low-compose : (g : ℕ) (z : ℤ) (w : ℕ) → Low z → w ≤ floor_mod (suc g) z
    → Low (compose g (floor_div (suc g) z) w)
low-compose g (pos n) w l h =
    let e : n / suc g ≡ 0 = rw l (zero-div (suc g)) in
    let f : n % suc g ≡ 0 = rw l (zero-mod (suc g)) in
    rw e (omega arith)
low-compose g (negsuc n) w l h = low-neg (g * suc (n / suc g)) w (omega arith)

lowered-le : (d : Direction) (u : Axis → ℕ) (b : Axis) → lowered d u b ≤ u b
lowered-le (along a) u b = lower_above-le (u a) (u b)
lowered-le diagonal u b = omega arith

-- one that is lowered stays one
pub lowered-low : (d : Direction) (g : ℕ) (q : Place) (b : Axis) → Low (q b) → Low (lowered_place d g q b)
lowered-low d g q b l =
    low-compose g (q b) (lowered d (remainder (suc g) q) b) l
    (lowered-le d (λ c. floor_mod (suc g) (q c)) b)

-- ---- nets that are 0 there
back-zero : (d : Direction) (F : Net) (b : Axis) → ((p : Place) → Low (p b) → F p ≡ 0)
    → (n : ℕ) (q : Place) → Low (q b) → sum_back d F n q ≡ 0
unfolding sum_back
back-zero d F b f zero q l = refl
back-zero d F b f (suc n) q l =
    let k : Low ((q ⊖ d) b) = low-down (moves d b) (q b) l in
    omega (arith, f (q ⊖ d) k, back-zero d F b f n (q ⊖ d) k)

-- a repeat keeps it
pub stepped-low : (d : Direction) (g : ℕ) (G : Net) → ZeroLow G → ZeroLow (stepped d g G)
unfolding stepped
stepped-low d g G v = record {
  zero_low = λ q b l.
      back-zero d (λ p. G (lowered_place d g p)) b
      (λ p k. v.zero_low (lowered_place d g p) b (lowered-low d g p b k)) _ q l;
}

is_one-low : (z : ℤ) → Low z → is_one z ≡ 0
is_one-low (pos zero) l = refl
is_one-low (pos (suc zero)) l = omega arith
is_one-low (pos (suc (suc n))) l = refl
is_one-low (negsuc n) l = refl

-- the simple net has it
pub simple-low : ZeroLow simple
unfolding simple
simple-low = record { zero_low = go }
  where
    go : (q : Place) (b : Axis) → Low (q b) → simple q ≡ 0
    go q a1 l = rw (is_one-low (q a1) l) (omega arith)
    go q a2 l = rw (is_one-low (q a2) l) (omega arith)
    go q a3 l = rw (is_one-low (q a3) l) (omega arith)

-- so does what an order builds from one that has it
pub built-low : (ds : List Direction) (g : ℕ) (G : Net) → ZeroLow G → ZeroLow (built ds g G)
unfolding built
built-low [] g G v = v
built-low (d ∷ ds) g G v = built-low ds (suc g) (stepped d g G) (stepped-low d g G v)

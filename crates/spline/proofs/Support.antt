-- A net is 0 outside its box, and no number of it is above m!.
use mathlib.Core.Bool.{Bool, false, true}
use mathlib.Core.List.{List, [], ◌∷◌}
use mathlib.Core.Path.{◌≡◌, refl, subst}
use Prim.Native.Nat.{◌*◌, ◌+◌, ◌/◌, ◌≤◌, suc, zero, ℕ}
use native.Mathlib.Nat.{le-div_iff_mul-le, mul-le-mul, mul-le-mul_left, zero-lt-suc}
use native.Mathlib.Omega.{arith}
use lib.IntN.{negsuc, pos, ℤ}
use lib.ListN.{length}
use Rattle.sums.specs.Coefficient.{factorial}
use Rattle.spline.specs.Build.{built, is_one, lowered_place, simple, stepped, sum_back}
use Rattle.spline.specs.Place.{Axis, Direction, Net, Place, ◌⊖◌, a1, a2, a3, moves}
use Rattle.spline.specs.Place.{compose, down_if, floor_div}
use Rattle.spline.specs.Rule.{lowered, remainder}

-- ---- high coordinates
-- at least N
abbrev pub High : ℕ → ℤ → Type 0
High N (pos n) = N ≤ n
High N (negsuc n) = ⊥

-- n where the direction moves on the axis, else 0
abbrev pub amount : Bool → ℕ → ℕ
amount true n = n
amount false n = 0

-- what is at least N is at least every smaller number
pub high-mono : (N N' : ℕ) (z : ℤ) → N' ≤ N → High N z → High N' z
high-mono N N' (pos n) l h = omega arith
high-mono N N' (negsuc _) l h = elim h [ ]

-- a step back takes one from the bound, where the direction moves
pub high_down : (h : Bool) (N n : ℕ) (z : ℤ) → High (N + amount h (suc n)) z
    → High (N + amount h n) (down_if h z)
high_down true N n (pos zero) l = omega arith
high_down true N n (pos (suc k)) l = omega arith
high_down false N n z l = l
high_down true N n (negsuc _) l = elim l [ ]

-- past e cells of degree g + 1, the lowered coordinate is past e cells of degree g
pub high-compose : (g e : ℕ) (z : ℤ) (w : ℕ) → High (suc g * e) z
    → High (g * e) (compose g (floor_div (suc g) z) w)
high-compose g e (pos n) w l =
    let k : e ≤ n / suc g = (le-div_iff_mul-le (zero-lt-suc g)).1 (omega arith) in
    omega (arith, mul-le-mul_left g k)
high-compose g e (negsuc _) w l = elim l [ ]

-- and so is the lowered place
pub lowered-high : (d : Direction) (g e : ℕ) (q : Place) (b : Axis) → High (suc g * e) (q b)
    → High (g * e) (lowered_place d g q b)
lowered-high d g e q b l = high-compose g e (q b) (lowered d (remainder (suc g) q) b) l

-- ---- nets that are 0 from there on
-- C is 0 where a coordinate is at least m × E
pub record ZeroHigh (m : ℕ) (E : Axis → ℕ) (C : Net) : Type 0 where
  pub zero_high : (q : Place) (b : Axis) → High (m * E b) (q b) → C q ≡ 0

back-high : (d : Direction) (F : Net) (b : Axis) (N : ℕ) → ((p : Place) → High N (p b) → F p ≡ 0)
    → (n : ℕ) (q : Place) → High (N + amount (moves d b) n) (q b) → sum_back d F n q ≡ 0
unfolding sum_back
back-high d F b N f zero q l = refl
back-high d F b N f (suc n) q l =
    let k : High (N + amount (moves d b) n) ((q ⊖ d) b) = high_down (moves d b) N n (q b) l in
    let here : F (q ⊖ d) ≡ 0
    = f (q ⊖ d) (high-mono (N + amount (moves d b) n) N ((q ⊖ d) b) (omega arith) k) in
    omega (arith, here, back-high d F b N f n (q ⊖ d) k)

-- the extents, with a direction more
abbrev pub wider : Direction → (Axis → ℕ) → Axis → ℕ
wider d E b = E b + amount (moves d b) 1

-- m times the wider extent: m more, where the direction moves
pub wider-mul : (h : Bool) (m e : ℕ) → m * (e + amount h 1) ≡ m * e + amount h m
wider-mul true m e = omega arith
wider-mul false m e = omega arith

-- a repeat makes the box one cell wider on each axis that it moves along
pub stepped-high : (d : Direction) (g : ℕ) (E : Axis → ℕ) (G : Net) → ZeroHigh g E G
    → ZeroHigh (suc g) (wider d E) (stepped d g G)
unfolding stepped
stepped-high d g E G v = record {
  zero_high = λ q b l.
      back-high d (λ p. G (lowered_place d g p)) b (suc g * E b)
      (λ p k. v.zero_high (lowered_place d g p) b (lowered-high d g (E b) p b k))
      (suc g) q
      (subst (λ (N : ℕ). High N (q b)) (wider-mul (moves d b) (suc g) (E b)) l);
}

-- the extents that an order gives
abbrev pub extents : List Direction → (Axis → ℕ) → Axis → ℕ
extents [] E = E
extents (d ∷ ds) E = extents ds (wider d E)

-- what an order builds is 0 past the box of its extents
pub built-high : (ds : List Direction) (g : ℕ) (E : Axis → ℕ) (G : Net) → ZeroHigh g E G
    → ZeroHigh (g + length ds) (extents ds E) (built ds g G)
unfolding built
built-high [] g E G v = subst (λ (m : ℕ). ZeroHigh m E G) (omega arith) v
built-high (d ∷ ds) g E G v =
    subst (λ (m : ℕ). ZeroHigh m (extents (d ∷ ds) E) (built (d ∷ ds) g G)) (omega arith)
    (built-high ds (suc g) (wider d E) (stepped d g G) (stepped-high d g E G v))

is_one-high : (z : ℤ) → High 2 z → is_one z ≡ 0
is_one-high (pos zero) l = refl
is_one-high (pos (suc zero)) l = omega arith
is_one-high (pos (suc (suc n))) l = refl
is_one-high (negsuc _) l = elim l [ ]

-- the simple net is 0 from 2 on
pub simple-high : ZeroHigh 1 (λ b. 2) simple
unfolding simple
simple-high = record { zero_high = go }
  where
    go : (q : Place) (b : Axis) → High (1 * 2) (q b) → simple q ≡ 0
    go q a1 l = rw (is_one-high (q a1) l) (omega arith)
    go q a2 l = rw (is_one-high (q a2) l) (omega arith)
    go q a3 l = rw (is_one-high (q a3) l) (omega arith)

-- ---- no number above m!
back-le : (d : Direction) (F : Net) (K : ℕ) → ((p : Place) → F p ≤ K)
    → (n : ℕ) (q : Place) → sum_back d F n q ≤ n * K
unfolding sum_back
back-le d F K f zero q = omega arith
back-le d F K f (suc n) q = omega (arith, f (q ⊖ d), back-le d F K f n (q ⊖ d))

-- from numbers up to g! an order builds none above the factorial of its degree
pub built-le : (ds : List Direction) (g : ℕ) (G : Net) → ((q : Place) → G q ≤ factorial g)
    → (q : Place) → built ds g G q ≤ factorial (g + length ds)
unfolding built stepped factorial
built-le [] g G f q = let e : g ≡ g + 0 = omega arith in subst (λ (m : ℕ). G q ≤ factorial m) e (f q)
built-le (d ∷ ds) g G f q =
    let e : suc g + length ds ≡ g + suc (length ds) = omega arith in
    let one : (p : Place) → stepped d g G p ≤ factorial (suc g)
    = back-le d (λ p. G (lowered_place d g p)) (factorial g) (λ p. f (lowered_place d g p)) (suc g) in
    subst (λ (m : ℕ). built (d ∷ ds) g G q ≤ factorial m) e
    (built-le ds (suc g) (stepped d g G) one q)

is_one-le : (z : ℤ) → is_one z ≤ 1
is_one-le (pos zero) = omega arith
is_one-le (pos (suc zero)) = omega arith
is_one-le (pos (suc (suc n))) = omega arith
is_one-le (negsuc n) = omega arith

-- the simple net has no number above 1
pub simple-le : (q : Place) → simple q ≤ factorial 1
unfolding simple factorial
simple-le q = mul-le-mul (mul-le-mul (is_one-le (q a1)) (is_one-le (q a2))) (is_one-le (q a3))

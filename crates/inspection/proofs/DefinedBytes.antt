-- The order that defines a net, as bytes.
use mathlib.Core.Bool.{false}
use mathlib.Core.List.{List, [], ◌++◌, ◌∷◌, map, map-append}
use mathlib.Core.Path.{◌∙◌, ◌≡◌, ap, ap₂, refl, sym}
use Prim.Native.Nat.{◌+◌, ◌-◌, ◌<◌, ◌≤◌, suc, zero, ℕ}
use native.Mathlib.Omega.{arith}
use lib.ListN.{get_or, length, take}
use Rattle.sums.proofs.Cases.{by-ltb}
use Rattle.sums.proofs.Fill.{length-tabulate, list-is-tabulate, tabulate-at, tabulate-cong, take-tabulate}
use Rattle.sums.proofs.Search.{nowhere-first}
use Rattle.sums.specs.Fill.{filled, tabulate}
use Rattle.spline.proofs.Multiplicities.{Positive}
use Rattle.spline.proofs.Orders.{order-of-defined}
use Rattle.spline.specs.Box.{defined_number, place_of, places, width}
use Rattle.spline.specs.Build.{built, direction, order_net, simple}
use Rattle.spline.specs.Defined.{defined, defined_order, repeats}
use Rattle.spline.specs.Multiplicities.{Multiplicities, multiplicities_of}
use Rattle.spline.specs.Place.{Axis, Direction, Net, a1, a2, a3, along, diagonal}
use Rattle.orders.specs.Inner.GoodOrder.{GoodOrder}
use Rattle.orders.specs.Order.{bad_byte, order_number, order_places, order_width}
use Rattle.defined_order.specs.Bytes.{defined_byte}

-- ---- runs of a direction

module _ (d : Direction) (ds : List Direction) (z : Direction) where
  in-run : (n i : ℕ) → i < n → get_or (repeats n d ds) i z ≡ d
  in-run zero i h = absurd (omega arith)
  in-run (suc n) zero h = refl
  in-run (suc n) (suc i) h = in-run n i (omega arith)

  past-run : (n i : ℕ) → n ≤ i → get_or (repeats n d ds) i z ≡ get_or ds (i - n) z
  past-run zero i h = ap (λ (k : ℕ). get_or ds k z) (omega arith)
  past-run (suc n) zero h = absurd (omega arith)
  past-run (suc n) (suc i) h = past-run n i (omega arith) ∙ ap (λ (k : ℕ). get_or ds k z) (omega arith)

length-repeats : (n : ℕ) (d : Direction) (ds : List Direction) → length (repeats n d ds) ≡ n + length ds
length-repeats zero d ds = omega arith
length-repeats (suc n) d ds = omega (arith, length-repeats n d ds)

map-tabulate : (f : ℕ → ℕ) (n : ℕ) → map direction (tabulate f n) ≡ tabulate (λ i. direction (f i)) n
unfolding tabulate
map-tabulate f zero = refl
map-tabulate f (suc n) =
    map-append direction (tabulate f n) (f n ∷ [])
    ∙ ap (λ (ds : List Direction). ds ++ (direction (f n) ∷ [])) (map-tabulate f n)

-- ---- the defined order's directions are those of its bytes

-- how many bytes it has
abbrev pub repeat_count : Multiplicities → ℕ
repeat_count v = v.v1 + v.v2 + v.v3 + v.v4 - 4

module _ (v : Multiplicities) (p : Positive v) where
  abbrev a : ℕ
  a = v.v1 - 1

  abbrev b : ℕ
  b = v.v3 - 1

  abbrev e : ℕ
  e = v.v2 - 1

  abbrev fours : List Direction
  fours = repeats (v.v4 - 1) diagonal []

  abbrev twos : List Direction
  twos = repeats e (along a2) fours

  abbrev threes : List Direction
  threes = repeats b (along a3) twos

  length-defined : length (defined_order v) ≡ repeat_count v
  unfolding defined_order
  length-defined =
      omega (
        arith,
        length-repeats a (along a1) threes,
        length-repeats b (along a3) twos,
        length-repeats e (along a2) fours,
        length-repeats (v.v4 - 1) diagonal [],
        p,
      )

  past1 : (i : ℕ) → a ≤ i → get_or (defined_order v) i diagonal ≡ get_or threes (i - a) diagonal
  unfolding defined_order
  past1 i h = past-run (along a1) threes diagonal a i h

  past2 : (i : ℕ) → a + b ≤ i → get_or (defined_order v) i diagonal ≡ get_or twos (i - (a + b)) diagonal
  past2 i h =
      let k : i - a - b ≡ i - (a + b) = omega arith in
      past1 i (omega arith)
      ∙ past-run (along a3) twos diagonal b (i - a) (omega arith)
      ∙ ap (λ (n : ℕ). get_or twos n diagonal) k

  past3 : (i : ℕ) → a + b + e ≤ i → get_or (defined_order v) i diagonal ≡ get_or fours (i - (a + b + e)) diagonal
  past3 i h =
      let k : i - (a + b) - e ≡ i - (a + b + e) = omega arith in
      past2 i (omega arith)
      ∙ past-run (along a2) fours diagonal e (i - (a + b)) (omega arith)
      ∙ ap (λ (n : ℕ). get_or fours n diagonal) k

  ones : (i : ℕ) → i < a → direction 1 ≡ get_or (defined_order v) i diagonal
  unfolding defined_order
  ones i h = sym (in-run (along a1) threes diagonal a i h)

  -- the byte at a position past the runs before it
  byte-is : (i : ℕ) → i < repeat_count v → direction (defined_byte v i) ≡ get_or (defined_order v) i diagonal
  unfolding defined_byte
  byte-is i l =
      by-ltb (λ (n : ℕ). direction n ≡ get_or (defined_order v) i diagonal) i a 1 _ (ones i)
      (λ h. by-ltb (λ (n : ℕ). direction n ≡ get_or (defined_order v) i diagonal) i (a + b) 3 _
      (λ k. sym (past1 i h ∙ in-run (along a3) twos diagonal b (i - a) (omega arith)))
      (λ k. by-ltb (λ (n : ℕ). direction n ≡ get_or (defined_order v) i diagonal) i (a + b + e) 2 4
      (λ m. sym (past2 i k ∙ in-run (along a2) fours diagonal e (i - (a + b)) (omega arith)))
      (λ m. sym (past3 i m ∙ in-run diagonal [] diagonal (v.v4 - 1) (i - (a + b + e)) (omega (arith, p))))))

defined-bytes : (v : Multiplicities) → Positive v
    → map direction (tabulate (defined_byte v) (repeat_count v)) ≡ defined_order v
defined-bytes v p =
    let n = repeat_count v in
    map-tabulate (defined_byte v) n
    ∙ sym (list-is-tabulate (defined_order v) n diagonal (length-defined v p)
    ∙ tabulate-cong (λ i. get_or (defined_order v) i diagonal) (λ i. direction (defined_byte v i)) n
    (λ i l. sym (byte-is v p i l)))

-- ---- the order that the code makes of these bytes

good-byte-is : (v : Multiplicities) (i : ℕ) → bad_byte (defined_byte v i) ≡ false
unfolding defined_byte
good-byte-is v i =
    by-ltb (λ (n : ℕ). bad_byte n ≡ false) i _ 1 _ (λ h. refl)
    (λ h. by-ltb (λ (n : ℕ). bad_byte n ≡ false) i _ 3 _ (λ k. refl)
    (λ k. by-ltb (λ (n : ℕ). bad_byte n ≡ false) i _ 2 4 (λ m. refl) (λ m. refl)))

module _ (v : Multiplicities) (p : Positive v) (few : repeat_count v ≤ 8) (bytes : List ℕ)
    (is : bytes ≡ tabulate (defined_byte v) 8) where
  -- the bytes that count
  abbrev pub order : List ℕ
  order = take (repeat_count v) bytes

  order_is : order ≡ tabulate (defined_byte v) (repeat_count v)
  order_is =
      ap (λ (l : List ℕ). take (repeat_count v) l) is
      ∙ take-tabulate (defined_byte v) (repeat_count v) 8 few

  -- it has as many bytes as the net has repeats
  pub order-length : length order ≡ repeat_count v
  order-length = ap length order_is ∙ length-tabulate (defined_byte v) (repeat_count v)

  order-at : (i : ℕ) → i < length order → get_or order i 0 ≡ defined_byte v i
  order-at i l =
      ap (λ (o : List ℕ). get_or o i 0) order_is
      ∙ tabulate-at (defined_byte v) (repeat_count v) i 0 (omega (arith, order-length))

  -- it is short and has good bytes
  pub order-good : GoodOrder order
  order-good = record {
    short = omega (arith, order-length);
    good = nowhere-first (λ i. bad_byte (get_or order i 0)) (length order) (λ i l.
        ap bad_byte (order-at i l) ∙ good-byte-is v i);
  }

  order-directions : map direction order ≡ defined_order v
  order-directions = ap (map direction) order_is ∙ defined-bytes v p

  order-net : order_net order ≡ defined v
  unfolding defined
  order-net = ap (λ (ds : List Direction). built ds 1 simple) order-directions

  order-width : order_width order ≡ width v
  order-width = ap width (ap multiplicities_of order-directions ∙ order-of-defined v p)

  -- its box has the places of the net's
  pub order-places : order_places order ≡ places (width v)
  order-places = ap places order-width

  -- what it builds is the defined net
  pub order-filled : (n₀ : List ℕ)
      → filled (order_number order) (order_places order) n₀ ≡ filled (defined_number v) (places (width v)) n₀
  order-filled n₀ =
      ap₂ (λ (C : Net) (W : Axis → ℕ). filled (λ i. C (place_of W i)) (places W) n₀) order-net order-width

-- Orders as bytes: each byte good, one byte more, and the limits that they keep.
use mathlib.Core.Bool.{◌&&◌, and-eq-true_iff}
use mathlib.Core.List.{List, [], ◌++◌, ◌∷◌, map, map-append}
use mathlib.Core.Path.{◌∙◌, ◌≡◌, ap, subst, sym}
use Prim.Native.Nat.{◌+◌, ◌<◌, ◌≤◌, ℕ}
use native.Mathlib.Numerals.{add-one}
use native.Mathlib.Omega.{arith}
use borrow.Author.Tests.{leb-true, not-false}
use lib.Dec.{leb}
use lib.ListN.{drop, get_or, length, length-map, take}
use lib.Seq.{drop-cons, length-take-le, take-suc}
use Rattle.sums.proofs.Search.{first-nowhere}
use Rattle.spline.proofs.Multiplicities.{order-degree, order-positive, order-snoc}
use Rattle.spline.specs.Build.{direction}
use Rattle.spline.specs.Inner.Limits.{Limits}
use Rattle.spline.specs.Multiplicities.{Multiplicities, more}
use Rattle.spline.specs.Multiplicities.{multiplicities_of, order_multiplicities}
use Rattle.spline.specs.Place.{Direction}
use Rattle.orders.specs.Inner.GoodOrder.{GoodOrder}
use Rattle.orders.specs.Order.{bad_byte}

module _ (order : List ℕ) (good : GoodOrder order) where
  -- each byte of a good order is 1 to 4
  pub good-byte : (t : ℕ) → t < length order → (1 ≤ get_or order t 0) × (get_or order t 0 ≤ 4)
  good-byte t l =
      let b : ℕ = get_or order t 0 in
      let fine = first-nowhere (λ i. bad_byte (get_or order i 0)) (length order) good.good t l in
      let e = (and-eq-true_iff (leb 1 b) (leb b 4)).0 (not-false (leb 1 b && leb b 4) fine) in
      (leb-true 1 b e.0, leb-true b 4 e.1)

-- ---- limits on an order's multiplicities

abbrev sum : Multiplicities → ℕ
sum v = v.v1 + v.v2 + v.v3 + v.v4

-- each byte adds 1 to their sum
order-sum : (ds : List Direction) → sum (multiplicities_of ds) ≡ 4 + length ds
order-sum ds = let p = order-positive ds in omega (arith, order-degree ds)

-- each of an order's multiplicities is at least 1, their sum is 4 and the order's length
pub order-limits : (order : List ℕ) → Limits (order_multiplicities order) (4 + length order)
order-limits order =
    let p = order-positive (map direction order) in
    let s = order-sum (map direction order) in
    let l = length-map order direction in
    record {
      least1 = omega arith;
      least2 = omega arith;
      least3 = omega arith;
      least4 = omega arith;
      sum = omega arith;
    }

-- limits with one highest sum are limits with a higher one
pub limits-le : {v : Multiplicities} {n k : ℕ} → Limits v n → n ≤ k → Limits v k
limits-le l h =
    record {
      least1 = l.least1;
      least2 = l.least2;
      least3 = l.least3;
      least4 = l.least4;
      sum = omega (arith, l.sum);
    }

-- the multiplicities of an order's first t bytes are within the limits with the sum 4 + t, or a higher one
pub prefix-limits : (order : List ℕ) (t n : ℕ) (v : Multiplicities) → v ≡ order_multiplicities (take t order)
    → t ≤ length order → 4 + t ≤ n → Limits v n
prefix-limits order t n v e l h =
    subst (λ (w : Multiplicities). Limits w n) (sym e)
    (limits-le (order-limits (take t order)) (omega (arith, length-take-le t order l)))

-- ---- one byte more

module _ (order : List ℕ) (t : ℕ) (l : t < length order) where
  abbrev d : Direction
  d = direction (get_or order t 0)

  -- it is the first of those that are left
  pub bytes_next : drop t order ≡ get_or order t 0 ∷ drop (t + 1) order
  bytes_next =
      drop-cons order t 0 l ∙ ap (λ (n : ℕ). get_or order t 0 ∷ drop n order) (sym (add-one t))

  -- its direction is one more
  pub directions-next : map direction (take (t + 1) order) ≡ map direction (take t order) ++ (d ∷ [])
  directions-next =
      ap (map direction) (ap (λ (n : ℕ). take n order) (add-one t) ∙ take-suc order t 0 l)
      ∙ map-append direction (take t order) (get_or order t 0 ∷ [])

  -- it adds 1 to a multiplicity
  pub multiplicities-next :
      order_multiplicities (take (t + 1) order) ≡ more d (order_multiplicities (take t order))
  multiplicities-next = ap multiplicities_of directions-next ∙ order-snoc (map direction (take t order)) d

  -- it makes the order longer by 1
  pub length-next : length (take (t + 1) order) ≡ t + 1
  length-next = length-take-le (t + 1) order (omega arith)

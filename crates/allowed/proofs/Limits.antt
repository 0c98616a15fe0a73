-- The limits on multiplicities and sizes as facts about numbers, and back.
use mathlib.Core.Bool.{Bool, ◌&&◌, and-eq-true_iff, true}
use mathlib.Core.Path.{◌≡◌}
use Prim.Native.Nat.{◌*◌, ◌≤◌, ℕ}
use native.Mathlib.Nat.{mul-le-mul}
use borrow.Author.Tests.{le-leb, leb-true}
use lib.Dec.{leb}
use Rattle.spline.specs.Inner.Limits.{Limits}
use Rattle.spline.specs.Multiplicities.{Multiplicities, allowed}
use Rattle.allowed.specs.Allowed.{size_allowed, sizes_allowed}

-- what `allowed` says of four multiplicities
abbrev pub NetLimits : Multiplicities → Type 0
NetLimits v = Limits v 12

-- what `sizes_allowed` says of three sizes
pub record BlockLimits (n1 n2 n3 : ℕ) : Type 0 where
  pub least1 : 1 ≤ n1
  pub least2 : 1 ≤ n2
  pub least3 : 1 ≤ n3
  pub most1 : n1 ≤ 64
  pub most2 : n2 ≤ 64
  pub most3 : n3 ≤ 64
  pub entries : n1 * n2 * n3 ≤ 4096

-- both parts of a true conjunction are true
pub split : (a b : Bool) → (a && b) ≡ true → (a ≡ true) × (b ≡ true)
split a b h = (and-eq-true_iff a b).0 h

-- a number that passes the tests of the range 1 to n is in it
pub range-limits : (k n : ℕ) → (leb 1 k && leb k n) ≡ true → (1 ≤ k) × (k ≤ n)
range-limits k n h = let e = split _ _ h in (leb-true 1 k e.0, leb-true k n e.1)

-- and one in the range passes them
pub limits-range : (k n : ℕ) → 1 ≤ k → k ≤ n → (leb 1 k && leb k n) ≡ true
limits-range k n a b = simp (le-leb 1 k a, le-leb k n b)

-- ---- multiplicities

-- multiplicities that pass their test are within the limits
pub allowed-limits : (v : Multiplicities) → allowed v ≡ true → NetLimits v
unfolding allowed
allowed-limits v h =
    let e = split _ _ h in
    let d = split _ _ e.0 in
    let c = split _ _ d.0 in
    let b = split _ _ c.0 in
    record {
      least1 = leb-true 1 v.v1 b.0;
      least2 = leb-true 1 v.v2 b.1;
      least3 = leb-true 1 v.v3 c.1;
      least4 = leb-true 1 v.v4 d.1;
      sum = leb-true _ 12 e.1;
    }

-- multiplicities within the limits pass their test
pub limits-allowed : (v : Multiplicities) → NetLimits v → allowed v ≡ true
unfolding allowed
limits-allowed v l =
    simp (
      le-leb _ _ l.least1,
      le-leb _ _ l.least2,
      le-leb _ _ l.least3,
      le-leb _ _ l.least4,
      le-leb _ _ l.sum,
    )

-- ---- sizes

-- a size that passes its test is within the limits
pub size-limits : (n : ℕ) → size_allowed n ≡ true → (1 ≤ n) × (n ≤ 64)
unfolding size_allowed
size-limits n h = range-limits n 64 h

limits-size : (n : ℕ) → 1 ≤ n → n ≤ 64 → size_allowed n ≡ true
unfolding size_allowed
limits-size n a b = limits-range n 64 a b

-- three sizes that pass their test are within the limits
pub sizes-limits : (n1 n2 n3 : ℕ) → sizes_allowed n1 n2 n3 ≡ true → BlockLimits n1 n2 n3
unfolding sizes_allowed
sizes-limits n1 n2 n3 h =
    let e = split _ _ h in
    let d = split _ _ e.0 in
    let c = split _ _ d.0 in
    let l1 = size-limits n1 c.0 in
    let l2 = size-limits n2 c.1 in
    let l3 = size-limits n3 d.1 in
    record {
      least1 = l1.0;
      least2 = l2.0;
      least3 = l3.0;
      most1 = l1.1;
      most2 = l2.1;
      most3 = l3.1;
      entries = leb-true _ 4096 e.1;
    }

-- three sizes within the limits pass their test
pub limits-sizes : (n1 n2 n3 : ℕ) → BlockLimits n1 n2 n3 → sizes_allowed n1 n2 n3 ≡ true
unfolding sizes_allowed
limits-sizes n1 n2 n3 l =
    simp (
      limits-size n1 l.least1 l.most1,
      limits-size n2 l.least2 l.most2,
      limits-size n3 l.least3 l.most3,
      le-leb _ _ l.entries,
    )

-- the products on the way to the number of entries fit 32 bits
pub products : (n1 n2 n3 : ℕ) → n1 ≤ 64 → n2 ≤ 64 → n3 ≤ 64 → (n1 * n2 ≤ 4096) × (n1 * n2 * n3 ≤ 262144)
products n1 n2 n3 h1 h2 h3 = (mul-le-mul h1 h2, mul-le-mul {n₂ = 4096} (mul-le-mul h1 h2) h3)

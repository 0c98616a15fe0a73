-- The weights of the local places are within 2^48, and so are the steps to them; they add up to D^m.
use mathlib.Core.Path.{◌∙◌, ◌≡◌, refl}
use Prim.Native.Nat.{◌*◌, ◌+◌, ◌-◌, ◌^◌, ◌≤◌, suc, ℕ}
use native.Mathlib.Nat.{le_refl, le_trans, mul-le-mul, mul-le-mul_left, mul-le-mul_right, one-le-pow}
use native.Mathlib.Nat.{pow-le-pow_left}
use native.Mathlib.Omega.{arith}
use lib.Pow.{pow-add}
use Rattle.sums.proofs.Coefficient.{binomial-factorial, factorial-pos, multinomial-binomial}
use Rattle.sums.proofs.Multinomial.{bernstein-sum}
use Rattle.sums.proofs.Simplex.{sum-tetrahedron, tetrahedron, triangle}
use Rattle.sums.proofs.Sum.{sum-cong}
use Rattle.sums.specs.Coefficient.{binomial, factorial}
use Rattle.sums.specs.Simplex.{bernstein, sum_simplex}
use Rattle.sums.specs.Sum.{sum_to}
use Rattle.divisor_checks.proofs.Scale.{scale-le}
use Rattle.divisor_checks.specs.Divisor.{limit, scale}
use Rattle.axis_order.specs.Weights.{weight_sum}
use Rattle.axis_order.specs.declared.Placing.{Placing}
use Rattle.answers.specs.Bernstein.{term_weight}
use Rattle.parts.specs.Weights.{Powers, Scaled, Tables, WithinDegree, factor, weight_at}
use Rattle.tetrahedron.proofs.Numbers.{count-is, local-is}
use Rattle.tetrahedron.specs.LocalPlaces.{local_places}
use Rattle.tetrahedron.specs.declared.local.LocalPlace.{LocalPlace}

-- powers as far as the n-th are powers as far as any k-th before it
fewer : (n k l : ℕ) (x : ℕ → ℕ) → k ≤ n → Powers n l x → Powers k l x
fewer n k l x h p i j = p i (omega arith)

-- ---- the steps to a weight: w × n! × D^n falls from one factor to the next

module _ (D : ℕ) (some : 1 ≤ D) where
  -- the room is never 0
  room-one : (n : ℕ) → 1 ≤ scale n D
  room-one n = mul-le-mul (factorial-pos n) (one-le-pow n D some)

  -- a factor more, and the room shrinks by at least as much
  room-step : (w n k l : ℕ) (x : ℕ → ℕ) → k ≤ n → l ≤ D → Powers n l x
      → w * factor x n k * scale k D ≤ w * scale n D
  room-step w n k l x h b p =
      let e : n - k + k ≡ n = omega arith in
      let q : D ^ n ≡ D ^ (n - k) * D ^ k = rw (← pow-add D (n - k) k, e) refl in
      let whole = mul-le-mul_left (binomial n k * factorial k) (factorial-pos (n - k)) in
      let c : binomial n k * factorial k ≤ factorial n = omega (arith, binomial-factorial n k h, whole) in
      let d = mul-le-mul c (mul-le-mul (pow-le-pow_left b (n - k)) (le_refl (D ^ k))) in
      let g = mul-le-mul_left w d in
      rw (p (n - k) (omega arith), q) (omega arith)

  -- what is within the limit with room is within it
  within : (a k : ℕ) → a * scale k D ≤ limit → a ≤ limit
  within a k h = omega (arith, mul-le-mul_left a (room-one k))

  -- powers of a weight are within the limit
  power-within : (n k l : ℕ) → k ≤ n → l ≤ D → scale n D ≤ limit → l ^ k ≤ limit
  power-within n k l h b s =
      let g : 1 * D ^ k ≤ scale k D = mul-le-mul_right (D ^ k) (factorial-pos k) in
      omega (arith, pow-le-pow_left b k, g, scale-le k n D some h)

-- ---- the weight of a local place

module _ {m : ℕ} {q : Placing} {l : LocalPlace} {x0 x1 x2 x3 : ℕ → ℕ} (h : Scaled m q) (o : WithinDegree m l)
    (tables : Tables m q x0 x1 x2 x3) where
  abbrev D : ℕ
  D = weight_sum q

  abbrev f0 : ℕ
  f0 = factor x0 m l.p

  abbrev f1 : ℕ
  f1 = factor x1 l.p l.r

  abbrev f2 : ℕ
  f2 = factor x2 l.r l.s

  -- each factor by itself
  factor-within : (x : ℕ → ℕ) (w n k : ℕ) → n ≤ m → k ≤ n → w ≤ D → Powers n w x → factor x n k ≤ limit
  factor-within x w n k hn hk hw p =
      within D h.some (factor x n k) k
      (omega (arith, room-step D h.some 1 n k w x hk hw p, scale-le n m D h.some hn, h.scaled))

  powers1 : Powers l.p q.l1 x1
  powers1 = fewer m l.p q.l1 x1 o.first tables.of1

  powers2 : Powers l.r q.l2 x2
  powers2 = fewer m l.r q.l2 x2 (omega (arith, o.second, o.first)) tables.of2

  -- the first factor is within the limit
  pub factor0 : f0 ≤ limit
  factor0 = factor-within x0 q.l0 m l.p (le_refl m) o.first (omega arith) tables.of0

  -- so is the second
  pub factor1 : f1 ≤ limit
  factor1 = factor-within x1 q.l1 l.p l.r o.first o.second (omega arith) powers1

  -- and the third
  pub factor2 : f2 ≤ limit
  factor2 =
      factor-within x2 q.l2 l.r l.s (omega (arith, o.second, o.first)) o.third (omega arith)
      powers2

  -- the products, each with the room that is left
  room0 : 1 * f0 * scale l.p D ≤ limit
  room0 =
      let s = h.scaled in
      omega (arith, room-step D h.some 1 m l.p q.l0 x0 o.first (omega arith) tables.of0)

  room1 : 1 * f0 * f1 * scale l.r D ≤ limit
  room1 =
      le_trans (room-step D h.some (1 * f0) l.p l.r q.l1 x1 o.second (omega arith) powers1)
      room0

  room2 : 1 * f0 * f1 * f2 * scale l.s D ≤ limit
  room2 =
      le_trans (room-step D h.some (1 * f0 * f1) l.r l.s q.l2 x2 o.third (omega arith) powers2)
      room1

  -- 1 times the first factor is within the limit
  pub product0 : 1 * f0 ≤ limit
  product0 = within D h.some (1 * f0) l.p room0

  -- so is the product with the second
  pub product1 : 1 * f0 * f1 ≤ limit
  product1 = within D h.some (1 * f0 * f1) l.r room1

  -- and with the third
  pub product2 : 1 * f0 * f1 * f2 ≤ limit
  product2 = within D h.some (1 * f0 * f1 * f2) l.s room2

  -- and with the power of the last weight
  pub product3 : 1 * f0 * f1 * f2 * x3 l.s ≤ limit
  product3 =
      let s = l.s in
      let power : D ^ s ≤ scale s D = omega (arith, mul-le-mul_right (D ^ s) (factorial-pos s)) in
      let last : q.l3 ^ s ≤ scale s D = le_trans (pow-le-pow_left (omega arith) s) power in
      rw (tables.of3 s (omega (arith, o.third, o.second, o.first)))
      (le_trans (mul-le-mul_left (1 * f0 * f1 * f2) last) room2)

  -- the last of them is the weight
  pub weight_is : 1 * f0 * f1 * f2 * x3 l.s
      ≡ term_weight m q (m - l.p) (l.p - l.r) (l.r - l.s) l.s
  unfolding bernstein
  weight_is =
      rw (
        tables.of0 (m - l.p) (omega arith),
        powers1 (l.p - l.r) (omega arith),
        powers2 (l.r - l.s) (omega arith),
        tables.of3 l.s (omega (arith, o.third, o.second, o.first)),
        multinomial-binomial m l.p l.r l.s o.first o.second o.third,
      ) (omega arith)

-- ---- all weights

-- the weight at the number of p, r, s is that of (m − p, p − r, r − s, s)
pub weight-at : (m : ℕ) (q : Placing) (p r s : ℕ) → p ≤ 9 → r ≤ p → s ≤ r
    → weight_at m q (tetrahedron p + (triangle r + s)) ≡ term_weight m q (m - p) (p - r) (r - s) s
unfolding weight_at
weight-at m q p r s hp hr hs = rw (local-is p r s hp hr hs) refl

-- the weights of all local places add up to D^m
pub weights-total : (m : ℕ) (q : Placing) → m ≤ 9 → sum_to (local_places m) (weight_at m q) ≡ weight_sum q ^ m
unfolding sum_simplex
weights-total m q h =
    rw (count-is m h)
    (sum-tetrahedron (suc m) (weight_at m q)
    ∙ sum-cong (suc m) _ _ (λ p lp. sum-cong (suc p) _ _ (λ r lr. sum-cong (suc r) _ _ (λ s ls.
    weight-at m q p r s (omega arith) (omega arith) (omega arith))))
    ∙ bernstein-sum m q.l0 q.l1 q.l2 q.l3)

-- each weight of the placing has its powers within the limit
pub powers-within : (m : ℕ) (q : Placing) → Scaled m q → (l : ℕ) → l ≤ weight_sum q
    → (m ≤ 9) × ((i : ℕ) → i ≤ m → l ^ i ≤ limit)
powers-within m q h l b =
    (h.degree, λ i k. power-within (weight_sum q) h.some m i l k b h.scaled)

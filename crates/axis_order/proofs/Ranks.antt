-- The axes are ranked as they should be, and the ranked remainders fall.
use mathlib.Core.Bool.{Bool, cond, false, true}
use mathlib.Core.Logic.{◌⊎◌, inl, inr, ⊎_elim}
use mathlib.Core.Path.{◌≡◌, refl, sym}
use Prim.Native.Nat.{◌<◌, ◌≤◌, ℕ}
use native.Mathlib.Nat.{eq-or-lt_of_le}
use native.Mathlib.Omega.{arith}
use borrow.Author.Tests.{leb-false, leb-true}
use lib.Dec.{leb}
use Rattle.spline.specs.Place.{Axis, a1, a2, a3, on_axes}
use Rattle.axis_order.specs.AxisOrder.{AxisRanks, axis_number, axis_ranks, rank_axes, with_third}
use Rattle.axis_order.specs.Inner.Ranking.{Axes, in_order, o123, o132, o213, o231, o312, o321, ranked}
use Rattle.axis_order.specs.Inner.Ranking.{ranking, third_among}
use Rattle.axis_order.specs.declared.ranking.Ranking.{Ranking}

-- axis 3 among two others is ranked as the definition has it
pub third-ranked : (u : Axis → ℕ) (a b : Axis)
    → third_among (axis_number a) (u a) (axis_number b) (u b) (u a3) ≡ ranking u (with_third u a b)
unfolding third_among with_third
third-ranked u a b = go (leb (u a3) (u b)) (leb (u a3) (u a))
  where
    go : (s t : Bool)
        → cond s (in_order (axis_number a) (u a) (axis_number b) (u b) 3 (u a3))
        (cond t
        (in_order (axis_number a) (u a) 3 (u a3) (axis_number b) (u b))
        (in_order 3 (u a3) (axis_number a) (u a) (axis_number b) (u b)))
        ≡ ranking u (cond s (axis_ranks a b a3) (cond t (axis_ranks a a3 b) (axis_ranks a3 a b)))
    go true t = refl
    go false true = refl
    go false false = refl

-- the six orders, each with what the tests say
pub rank-cases : (u : Axis → ℕ) (P : AxisRanks → Type 0)
    → (u a2 ≤ u a1 → u a3 ≤ u a2 → P (axis_ranks a1 a2 a3))
    → (u a3 ≤ u a1 → u a2 < u a3 → P (axis_ranks a1 a3 a2))
    → (u a2 ≤ u a1 → u a1 < u a3 → P (axis_ranks a3 a1 a2))
    → (u a1 < u a2 → u a3 ≤ u a1 → P (axis_ranks a2 a1 a3))
    → (u a3 ≤ u a2 → u a1 < u a3 → P (axis_ranks a2 a3 a1))
    → (u a1 < u a2 → u a2 < u a3 → P (axis_ranks a3 a2 a1))
    → P (rank_axes u)
unfolding rank_axes with_third
rank-cases u P p123 p132 p312 p213 p231 p321 =
    go (leb (u a2) (u a1)) (leb (u a3) (u a2)) (leb (u a3) (u a1)) refl refl refl
  where
    go : (a b c : Bool) → leb (u a2) (u a1) ≡ a → leb (u a3) (u a2) ≡ b → leb (u a3) (u a1) ≡ c
        → P (cond a
        (cond b (axis_ranks a1 a2 a3) (cond c (axis_ranks a1 a3 a2) (axis_ranks a3 a1 a2)))
        (cond c (axis_ranks a2 a1 a3) (cond b (axis_ranks a2 a3 a1) (axis_ranks a3 a2 a1))))
    go true true c ea eb ec = p123 (leb-true _ _ ea) (leb-true _ _ eb)
    go true false true ea eb ec = p132 (leb-true _ _ ec) (leb-false _ _ eb)
    go true false false ea eb ec = p312 (leb-true _ _ ea) (leb-false _ _ ec)
    go false true true ea eb ec = p213 (leb-false _ _ ea) (leb-true _ _ ec)
    go false false true ea eb ec = p213 (leb-false _ _ ea) (leb-true _ _ ec)
    go false true false ea eb ec = p231 (leb-true _ _ eb) (leb-false _ _ ec)
    go false false false ea eb ec = p321 (leb-false _ _ ea) (leb-false _ _ eb)

-- axis a stands before axis b: its remainder is larger, or equal and a is the lower axis
abbrev pub Before : (Axis → ℕ) → Axis → Axis → Type 0
Before u a b = (u b < u a) ⊎ ((u a ≡ u b) × (axis_number a < axis_number b))

-- the three axes p, r, s, each before the next
pub record Ordered (u : Axis → ℕ) (o : AxisRanks) : Type 0 where
  pub axes : Axes (axis_number o.p) (axis_number o.r) (axis_number o.s)
  pub first : Before u o.p o.r
  pub second : Before u o.r o.s

-- not smaller, and the lower number
tie : {a b x y : ℕ} → y ≤ x → a < b → (y < x) ⊎ ((x ≡ y) × (a < b))
tie h l = ⊎_elim (λ e. inr (sym e, l)) (λ k. inl k) (eq-or-lt_of_le h)

-- the ranked axes are in this order
pub ordered : (u : Axis → ℕ) → Ordered u (rank_axes u)
ordered u =
    rank-cases u (Ordered u)
    (λ a b. record { axes = o123; first = tie a (omega arith); second = tie b (omega arith) })
    (λ a b. record { axes = o132; first = tie a (omega arith); second = inl b })
    (λ a b. record { axes = o312; first = inl b; second = tie a (omega arith) })
    (λ a b. record { axes = o213; first = inl a; second = tie b (omega arith) })
    (λ a b. record { axes = o231; first = tie a (omega arith); second = inl b })
    (λ a b. record { axes = o321; first = inl b; second = inl a })

-- ---- the remainders

-- the remainders of the axes p, r, s fall, from one that is at most D
pub record Falling (D : ℕ) (t : Ranking) : Type 0 where
  pub most : t.up ≤ D
  pub first : t.ur ≤ t.up
  pub second : t.us ≤ t.ur

before-le : (u : Axis → ℕ) (a b : Axis) → Before u a b → u b ≤ u a
before-le u a b (inl l) = omega arith
before-le u a b (inr e) = omega arith

-- three numbers that are each at most D
all_most : {x y z D : ℕ} → x ≤ D → y ≤ D → z ≤ D → (b : Axis) → on_axes x y z b ≤ D
all_most hx hy hz a1 = hx
all_most hx hy hz a2 = hy
all_most hx hy hz a3 = hz

-- ranked remainders fall
pub falling : (u1 u2 u3 D : ℕ) → u1 ≤ D → u2 ≤ D → u3 ≤ D → Falling D (ranked u1 u2 u3)
falling u1 u2 u3 D h1 h2 h3 =
    let u = on_axes u1 u2 u3 in
    let o = rank_axes u in
    let r = ordered u in
    record {
      most = all_most h1 h2 h3 o.p;
      first = before-le u o.p o.r r.first;
      second = before-le u o.r o.s r.second;
    }

-- The local places by number: how they are ordered, and which one comes next.
use mathlib.Core.Bool.{Bool, cond, false, true}
use mathlib.Core.Path.{◌∙◌, ◌≡◌, ap, refl}
use Prim.Native.Nat.{◌+◌, ◌<◌, ◌≤◌, suc, zero, ℕ}
use native.Mathlib.Numerals.{add-one}
use native.Mathlib.Omega.{arith}
use borrow.Author.Tests.{ltb-false, ltb-true}
use lib.Dec.{ltb}
use Rattle.tetrahedron.specs.LocalPlaces.{local, local_after, local_at}
use Rattle.tetrahedron.specs.declared.local.LocalPlace.{LocalPlace}

-- no farther along an axis than along the one before, and within degree 9
pub record Ordered (l : LocalPlace) : Type 0 where
  pub third : l.s ≤ l.r
  pub second : l.r ≤ l.p
  pub first : l.p ≤ 9

-- the next one, by what the tests say
pub after-cases : (l : LocalPlace) (P : LocalPlace → Type 0)
    → (l.s < l.r → P (local l.p l.r (l.s + 1)))
    → (l.r ≤ l.s → l.r < l.p → P (local l.p (l.r + 1) 0))
    → (l.r ≤ l.s → l.p ≤ l.r → l.p < 9 → P (local (l.p + 1) 0 0))
    → (l.r ≤ l.s → l.p ≤ l.r → 9 ≤ l.p → P (local 0 0 0))
    → P (local_after l)
unfolding local_after
after-cases l P third second first none =
    go (ltb l.s l.r) (ltb l.r l.p) (ltb l.p 9) refl refl refl
  where
    go : (a b c : Bool) → ltb l.s l.r ≡ a → ltb l.r l.p ≡ b → ltb l.p 9 ≡ c
        → P (cond a (local l.p l.r (l.s + 1))
        (cond b (local l.p (l.r + 1) 0) (cond c (local (l.p + 1) 0 0) (local 0 0 0))))
    go true b c ea eb ec = third (ltb-true _ _ ea)
    go false true c ea eb ec = second (ltb-false _ _ ea) (ltb-true _ _ eb)
    go false false true ea eb ec = first (ltb-false _ _ ea) (ltb-false _ _ eb) (ltb-true _ _ ec)
    go false false false ea eb ec = none (ltb-false _ _ ea) (ltb-false _ _ eb) (ltb-false _ _ ec)

-- the one after the t-th
pub local-next : {k l : LocalPlace} (t : ℕ) → k ≡ local_after l → l ≡ local_at t → k ≡ local_at (t + 1)
unfolding local_at
local-next t e h = rw (add-one t) (e ∙ ap local_after h)

-- every one is so ordered
pub ordered_at : (t : ℕ) → Ordered (local_at t)
unfolding local_at
ordered_at zero = record { third = omega arith; second = omega arith; first = omega arith }
ordered_at (suc t) =
    let o = ordered_at t in
    after-cases (local_at t) Ordered
    (λ h. record { third = omega arith; second = o.second; first = o.first })
    (λ h k. record { third = omega arith; second = omega arith; first = o.first })
    (λ h k l. record { third = omega arith; second = omega arith; first = omega arith })
    (λ h k l. record { third = omega arith; second = omega arith; first = omega arith })

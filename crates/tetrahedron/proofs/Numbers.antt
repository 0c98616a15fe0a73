-- The local places p, r, s stand at tetrahedron p + (triangle r + s), and those of degree m come first.
use mathlib.Core.Bool.{Bool, false, true}
use mathlib.Core.Path.{◌∙◌, ◌≡◌, ap, refl}
use Prim.Native.Nat.{◌+◌, ◌<◌, ◌≤◌, suc, zero, ℕ}
use native.Mathlib.Nat.{add-suc, add-zero}
use native.Mathlib.Numerals.{add-one}
use native.Mathlib.Omega.{arith}
use borrow.Author.Tests.{eqb-true, le-ltb, leb-false, leb-true, lt-ltb, ltb-false}
use lib.Dec.{eqb, leb, ltb}
use Rattle.sums.proofs.Search.{all-at}
use Rattle.sums.proofs.Simplex.{tetrahedron, tetrahedron-le, triangle}
use Rattle.sums.specs.Search.{all_to}
use Rattle.tetrahedron.proofs.LocalPlaces.{Ordered, after-cases, ordered_at}
use Rattle.tetrahedron.specs.LocalPlaces.{local, local_after, local_at, local_places}
use Rattle.tetrahedron.specs.declared.local.LocalPlace.{LocalPlace}

-- ---- how many there are

tested : all_to 10 (λ m. eqb (local_places m) (tetrahedron (suc m))) ≡ true
unfolding all_to local_places tetrahedron triangle
tested = refl

-- a degree has as many as there are p, r, s
pub count-is : (m : ℕ) → m ≤ 9 → local_places m ≡ tetrahedron (suc m)
count-is m h = eqb-true _ _ (all-at 10 _ tested m (omega arith))

most : tetrahedron 10 ≡ 220
unfolding tetrahedron triangle
most = refl

-- no more than 220
pub count_most : (m : ℕ) → m ≤ 9 → local_places m ≤ 220
count_most m h = omega (arith, count-is m h, tetrahedron-le (suc m) 10 (omega arith), most)

-- so of any degree, since past 9 there are none
pub count-few : (m : ℕ) → local_places m ≤ 220
unfolding local_places
count-few m = go (ltb 9 m) refl
  where
    go : (b : Bool) → ltb 9 m ≡ b → local_places m ≤ 220
    go true e = rw e (omega arith)
    go false e = count_most m (ltb-false 9 m e)

least : tetrahedron 1 ≡ 1
unfolding tetrahedron triangle
least = refl

-- and one at least
pub count-least : (m : ℕ) → m ≤ 9 → 1 ≤ local_places m
count-least m h = omega (arith, count-is m h, tetrahedron-le 1 (suc m) (omega arith), least)

-- ---- which one stands where

after-s : (p r s : ℕ) → s < r → local_after (local p r s) ≡ local p r (s + 1)
unfolding local_after
after-s p r s h = simp (lt-ltb s r h)

after-r : (p r : ℕ) → r < p → local_after (local p r r) ≡ local p (r + 1) 0
unfolding local_after
after-r p r h = simp (le-ltb r r (omega arith), lt-ltb r p h)

after-p : (p : ℕ) → p < 9 → local_after (local p p p) ≡ local (p + 1) 0 0
unfolding local_after
after-p p h = simp (le-ltb p p (omega arith), lt-ltb p 9 h)

along-s : (p r t : ℕ) → local_at t ≡ local p r 0 → (s : ℕ) → s ≤ r → local_at (t + s) ≡ local p r s
unfolding local_at
along-s p r t e zero h = rw (add-zero t) e
along-s p r t e (suc s) h =
    rw (add-suc t s)
    (ap local_after (along-s p r t e s (omega arith))
    ∙ after-s p r s h
    ∙ ap (local p r) (add-one s))

along-r : (p t : ℕ) → local_at t ≡ local p 0 0 → (r : ℕ) → r ≤ p → local_at (t + triangle r) ≡ local p r 0
unfolding local_at triangle
along-r p t e zero h = rw (add-zero t) e
along-r p t e (suc r) h =
    let i : t + (triangle r + suc r) ≡ suc (t + triangle r + r) = omega arith in
    rw i
    (ap local_after (along-s p r (t + triangle r) (along-r p t e r (omega arith)) r (omega arith))
    ∙ after-r p r h
    ∙ ap (λ (k : ℕ). local p k 0) (add-one r))

along-p : (p : ℕ) → p ≤ 9 → local_at (tetrahedron p) ≡ local p 0 0
unfolding local_at tetrahedron triangle
along-p zero h = refl
along-p (suc p) h =
    let i : tetrahedron p + (triangle p + suc p) ≡ suc (tetrahedron p + triangle p + p) = omega arith in
    rw i
    (ap local_after
    (along-s p p (tetrahedron p + triangle p)
    (along-r p (tetrahedron p) (along-p p (omega arith)) p (omega arith)) p (omega arith))
    ∙ after-p p h
    ∙ ap (λ (k : ℕ). local k 0 0) (add-one p))

-- p, r, s stands at its number
pub local-is : (p r s : ℕ) → p ≤ 9 → r ≤ p → s ≤ r
    → local_at (tetrahedron p + (triangle r + s)) ≡ local p r s
local-is p r s hp hr hs =
    let i : tetrahedron p + (triangle r + s) ≡ tetrahedron p + triangle r + s = omega arith in
    rw i
    (along-s p r (tetrahedron p + triangle r) (along-r p (tetrahedron p) (along-p p hp) r hr) s hs)

-- ---- those of a degree

abbrev number : LocalPlace → ℕ
number l = tetrahedron l.p + (triangle l.r + l.s)

last-number : (l : LocalPlace) → Ordered l → l.r ≤ l.s → l.p ≤ l.r → 9 ≤ l.p → number l ≡ 219
unfolding tetrahedron triangle
last-number l o h k n =
    let ep : l.p ≡ 9 = omega (arith, o.first) in
    let er : l.r ≡ 9 = omega (arith, o.second) in
    let es : l.s ≡ 9 = omega (arith, o.third) in
    rw (ep, er, es) refl

-- the number of the next one, unless it is the last
next-number : (l : LocalPlace) → Ordered l → number l < 219 → number (local_after l) ≡ suc (number l)
unfolding tetrahedron triangle
next-number l o h =
    after-cases l (λ k. number k ≡ suc (number l))
    (λ a. omega arith)
    (λ a b. let e : l.s ≡ l.r = omega (arith, o.third) in rw (add-one l.r) (omega arith))
    (λ a b c.
    let es : l.s ≡ l.r = omega (arith, o.third) in
    let er : l.r ≡ l.p = omega (arith, o.second) in
    rw (add-one l.p, er) (omega arith))
    (λ a b c. absurd (omega (arith, last-number l o a b c)))

number_at : (t : ℕ) → t < 220 → number (local_at t) ≡ t
unfolding local_at tetrahedron triangle
number_at zero h = refl
number_at (suc t) h =
    let ih = number_at t (omega arith) in
    next-number (local_at t) (ordered_at t) (omega arith) ∙ ap suc ih

-- one that stands before the number of those of degree m is of degree m
pub degree-at : (m t : ℕ) → m ≤ 9 → t < local_places m → (local_at t).p ≤ m
degree-at m t h l = go (leb (local_at t).p m) refl
  where
    go : (b : Bool) → leb (local_at t).p m ≡ b → (local_at t).p ≤ m
    go true e = leb-true _ _ e
    go false e =
        let c = leb-false (local_at t).p m e in
        absurd
        (omega (
          arith,
          count-is m h,
          count_most m h,
          number_at t (omega (arith, count_most m h)),
          tetrahedron-le (suc m) (local_at t).p c,
        ))

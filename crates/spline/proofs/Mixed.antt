-- Two nets with equal mixed differences that are 0 where a coordinate is not positive are equal.
use mathlib.Core.Bool.{Bool, false, true}
use mathlib.Core.Path.{◌∙◌, ◌≡◌, ap, fun_ext, refl, sym}
use Prim.Native.Nat.{◌+◌, ◌<◌, ◌≤◌, suc, zero, ℕ}
use native.Mathlib.Decide.{ℕ_discrete}
use native.Mathlib.Omega.{arith}
use lib.IntN.{negsuc, pos, pred_ℤ, ℤ}
use Rattle.spline.proofs.Low.{Low, ZeroLow}
use Rattle.spline.proofs.Shifts.{⊖-comm}
use Rattle.spline.proofs.Steps.{⊖⊕}
use Rattle.spline.specs.Place.{Axis, Direction, Net, Place, ◌⊕◌, ◌⊖◌, a1, a2, a3}
use Rattle.spline.specs.Place.{along, diagonal, down_if, moves}

-- ---- the size of a place, which a step back makes smaller
abbrev nat : ℤ → ℕ
nat (pos n) = n
nat (negsuc n) = 0

size : Place → ℕ
size q = nat (q a1) + nat (q a2) + nat (q a3)

down_le : (h : Bool) (z : ℤ) → nat (down_if h z) ≤ nat z
down_le true (pos zero) = omega arith
down_le true (pos (suc n)) = omega arith
down_le true (negsuc n) = omega arith
down_le false z = omega arith

down_lt : (z : ℤ) → ¬ (Low z) → nat (pred_ℤ z) < nat z
down_lt (pos zero) f = absurd (f refl)
down_lt (pos (suc n)) f = omega arith
down_lt (negsuc n) f = absurd (f tt)

size-le : (d : Direction) (q : Place) → size (q ⊖ d) ≤ size q
unfolding size
size-le d q =
    let le : (b : Axis) → nat (down_if (moves d b) (q b)) ≤ nat (q b) = λ b. down_le (moves d b) (q b) in
    omega (arith, le a1, le a2, le a3)

size-lt : (d : Direction) (q : Place) → ((b : Axis) → ¬ (Low (q b))) → size (q ⊖ d) < size q
unfolding size
size-lt (along a1) q f = omega (arith, down_lt (q a1) (f a1))
size-lt (along a2) q f = omega (arith, down_lt (q a2) (f a2))
size-lt (along a3) q f = omega (arith, down_lt (q a3) (f a3))
size-lt diagonal q f = omega (arith, down_lt (q a1) (f a1), down_lt (q a2) (f a2), down_lt (q a3) (f a3))

dec_low : (z : ℤ) → Dec (Low z)
dec_low (pos n) = ℕ_discrete n 0
dec_low (negsuc n) = yes tt

-- ---- equal mixed differences
-- the mixed differences of A and of B are equal, at every place
unfoldable pub Cross : Direction → Direction → Net → Net → Type 0
Cross d e A B = (q : Place)
    → A ((q ⊕ e) ⊕ d) + A q + (B (q ⊕ e) + B (q ⊕ d)) ≡ B ((q ⊕ e) ⊕ d) + B q + (A (q ⊕ e) + A (q ⊕ d))

module _ (d e : Direction) (A B : Net) (a : ZeroLow A) (b : ZeroLow B) (x : Cross d e A B) where
  inside : (n : ℕ) (q : Place) → size q < suc n → ((p : Place) → size p < n → A p ≡ B p)
      → ((c : Axis) → ¬ (Low (q c))) → A q ≡ B q
  unfolding Cross
  inside n q l rec f =
      let p : Place = (q ⊖ d) ⊖ e in
      let e1 : p ⊕ e ≡ q ⊖ d = ⊖⊕ (q ⊖ d) e in
      let e2 : (p ⊕ e) ⊕ d ≡ q = ap (λ (r : Place). r ⊕ d) e1 ∙ ⊖⊕ q d in
      let e3 : p ⊕ d ≡ q ⊖ e = ap (λ (r : Place). r ⊕ d) (⊖-comm q d e) ∙ ⊖⊕ (q ⊖ e) d in
      let i1 : A (q ⊖ d) ≡ B (q ⊖ d) = rec (q ⊖ d) (omega (arith, size-lt d q f)) in
      let i2 : A (q ⊖ e) ≡ B (q ⊖ e) = rec (q ⊖ e) (omega (arith, size-lt e q f)) in
      let i3 : A p ≡ B p = rec p (omega (arith, size-lt d q f, size-le e (q ⊖ d))) in
      omega (arith, x p, ap A e1, ap A e2, ap A e3, ap B e1, ap B e2, ap B e3)

  agree : (n : ℕ) (q : Place) → size q < n → A q ≡ B q
  agree zero q l = omega arith
  agree (suc n) q l = go (dec_low (q a1)) (dec_low (q a2)) (dec_low (q a3)) (agree n)
    where
      out : (c : Axis) → Low (q c) → A q ≡ B q
      out c k = a.zero_low q c k ∙ sym (b.zero_low q c k)

      all : ¬ (Low (q a1)) → ¬ (Low (q a2)) → ¬ (Low (q a3)) → (c : Axis) → ¬ (Low (q c))
      all f1 f2 f3 a1 = f1
      all f1 f2 f3 a2 = f2
      all f1 f2 f3 a3 = f3

      go : Dec (Low (q a1)) → Dec (Low (q a2)) → Dec (Low (q a3))
          → ((p : Place) → size p < n → A p ≡ B p) → A q ≡ B q
      go (yes k) y z rec = out a1 k
      go (no f1) (yes k) z rec = out a2 k
      go (no f1) (no f2) (yes k) rec = out a3 k
      go (no f1) (no f2) (no f3) rec = inside n q l rec (all f1 f2 f3)

  -- then A and B are equal: by induction on the size, since both are 0 where a coordinate is low
  pub mixed-unique : A ≡ B
  mixed-unique = fun_ext (λ q. agree (suc (size q)) q (omega arith))

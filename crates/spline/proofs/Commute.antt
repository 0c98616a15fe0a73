-- Two repeats of any two directions can be taken in either order.
use mathlib.Core.Bool.{Bool, false, true}
use mathlib.Core.Path.{◌≡◌, ap, refl, subst, sym}
use Prim.Native.Nat.{◌+◌, suc, ℕ}
use native.Mathlib.Omega.{arith}
use Rattle.spline.proofs.Low.{ZeroLow, stepped-low}
use Rattle.spline.proofs.Lowering.{lowered-whole-back}
use Rattle.spline.proofs.Meeting.{Meet, free, meet-axes, meet-diagonal, meet-sym, same_axis-eq, stuck}
use Rattle.spline.proofs.Mixed.{Cross, mixed-unique}
use Rattle.spline.proofs.Shifts.{back-back, back-⊕, ⊕-comm}
use Rattle.spline.proofs.Steps.{back, telescope}
use Rattle.spline.specs.Build.{lowered_place, stepped}
use Rattle.spline.specs.Place.{Axis, Direction, Net, Place, ◌⊕◌, along, diagonal, same_axis}

-- ---- the rule, in the form that the proofs use
step : (d : Direction) (g : ℕ) (G : Net) (q : Place)
    → stepped d g G (q ⊕ d) + G (back d g (lowered_place d g q)) ≡ stepped d g G q + G (lowered_place d g q)
unfolding stepped
step d g G q = rw (← lowered-whole-back d d g q) (telescope d (λ p. G (lowered_place d g p)) (suc g) q)

-- ---- the mixed difference of two repeats
-- a repeat of e, then one of d
abbrev twice : Direction → Direction → ℕ → Net → Net
twice d e g G = stepped d (suc g) (stepped e g G)

module _ (d e : Direction) (g : ℕ) (G : Net) (q : Place) where
  abbrev H : Net
  H = stepped e g G

  abbrev R : Net
  R = twice d e g G

  -- the lowered place
  abbrev p : Place
  p = lowered_place d (suc g) q

  mixed_stuck : lowered_place d (suc g) (q ⊕ e) ≡ p → R ((q ⊕ e) ⊕ d) + R q ≡ R (q ⊕ e) + R (q ⊕ d)
  mixed_stuck f = omega (arith, rw f at (step d (suc g) H (q ⊕ e)), step d (suc g) H q)

  mixed-free : lowered_place d (suc g) (q ⊕ e) ≡ p ⊕ e → (X : Place) → lowered_place e g p ≡ X
      → R ((q ⊕ e) ⊕ d) + R q + (G (back e g X) + G (back d g X))
      ≡ R (q ⊕ e) + R (q ⊕ d) + (G X + G (back e g (back d g X)))
  mixed-free f X h =
      let s1 : R ((q ⊕ e) ⊕ d) + H (back d (suc g) p ⊕ e) ≡ R (q ⊕ e) + H (p ⊕ e)
      = rw (f, back-⊕ d e (suc g) p) at (step d (suc g) H (q ⊕ e)) in
      let s0 : R (q ⊕ d) + H (back d (suc g) p) ≡ R q + H p = step d (suc g) H q in
      let t0 : H (p ⊕ e) + G (back e g X) ≡ H p + G X = rw h at (step e g G p) in
      let t1 : H (back d (suc g) p ⊕ e) + G (back e g (back d g X)) ≡ H (back d (suc g) p) + G (back d g X)
      = rw (lowered-whole-back e d g p, h) at (step e g G (back d (suc g) p)) in
      omega arith

crossed : (d e : Direction) (g : ℕ) (G : Net) → ((q : Place) → Meet d e g q)
    → Cross d e (twice d e g G) (twice e d g G)
unfolding Cross
crossed d e g G m q = go (m q)
  where
    A : Net
    A = twice d e g G

    B : Net
    B = twice e d g G

    turned : B ((q ⊕ d) ⊕ e) ≡ B ((q ⊕ e) ⊕ d)
    turned = ap B (⊕-comm q d e)

    go : Meet d e g q
        → A ((q ⊕ e) ⊕ d) + A q + (B (q ⊕ e) + B (q ⊕ d)) ≡ B ((q ⊕ e) ⊕ d) + B q + (A (q ⊕ e) + A (q ⊕ d))
    go (stuck r s) = omega (arith, mixed_stuck d e g G q r, mixed_stuck e d g G q s, turned)
    go (free r s t) =
        let X : Place = lowered_place e g (lowered_place d (suc g) q) in
        let one = mixed-free d e g G q r X refl in
        let two = mixed-free e d g G q s X (sym t) in
        omega (arith, one, two, turned, ap G (back-back d e g X))

meeting : (d e : Direction) (g : ℕ) (G : Net) → ZeroLow G
    → ((q : Place) → Meet d e g q) → twice d e g G ≡ twice e d g G
meeting d e g G v m =
    mixed-unique d e (twice d e g G) (twice e d g G)
    (stepped-low d (suc g) (stepped e g G) (stepped-low e g G v))
    (stepped-low e (suc g) (stepped d g G) (stepped-low d g G v))
    (crossed d e g G m)

-- ---- two repeats commute
-- a repeat of e and one of d give one net in either order
pub commute : (d e : Direction) (g : ℕ) (G : Net) → ZeroLow G
    → stepped d (suc g) (stepped e g G) ≡ stepped e (suc g) (stepped d g G)
commute (along a) (along b) g G v = go (same_axis b a) refl
  where
    go : (h : Bool) → same_axis b a ≡ h → twice (along a) (along b) g G ≡ twice (along b) (along a) g G
    go true s =
        subst (λ (c : Axis). twice (along c) (along b) g G ≡ twice (along b) (along c) g G)
        (same_axis-eq b a (rw s tt)) refl
    go false s = meeting (along a) (along b) g G v (λ q. meet-axes g q a b s)
commute (along a) diagonal g G v = meeting (along a) diagonal g G v (λ q. meet-diagonal g q a)
commute diagonal (along a) g G v = meeting diagonal (along a) g G v (λ q. meet-sym (meet-diagonal g q a))
commute diagonal diagonal g G v = refl

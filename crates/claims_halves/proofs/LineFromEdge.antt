-- The places of a line: those from its first place in the box up to the one where it is summed to.
use mathlib.Core.Bool.{Bool, false, true}
use mathlib.Core.Logic.{◌↔◌}
use mathlib.Core.Path.{◌∙◌, ◌≡◌, ap, ap₂, fun_ext, refl, subst, sym}
use Prim.Native.Nat.{◌<◌, ◌≤◌, min, suc, zero, ℕ}
use native.Mathlib.Omega.{arith}
use lib.IntN.{negsuc, pos, ℤ}
use Rattle.sums.proofs.Cases.{by_order}
use Rattle.spline.proofs.Meeting.{same_axis-eq}
use Rattle.spline.specs.Place.{Axis, Direction, Place, a1, a2, a3, along, diagonal, down_if, moves, place}
use Rattle.claims_halves.specs.Halves.{InsideBox, InsideWidth, LineFromEdge, OnEdge, steps_back}
use Rattle.edges.specs.Lines.{steps_to_edge}

-- ---- one axis

-- a coordinate, so many steps back
downs : Bool → ℕ → ℤ → ℤ
downs m zero z = z
downs m (suc n) z = downs m n (down_if m z)

back_at : (d : Direction) (n : ℕ) (q : Place) (b : Axis) → steps_back d n q b ≡ downs (moves d b) n (q b)
unfolding downs
back_at d zero q b = refl
back_at d (suc n) q b = back_at d n (λ c. down_if (moves d c) (q c)) b

-- below 0 no step back leads into the box
below : (n k w : ℕ) → InsideWidth w (downs true n (negsuc k)) → ⊥
unfolding downs
below zero k w h = h
below (suc n) k w h = below n (suc k) w h

-- along the axis as many steps as the coordinate is high
inside-steps : (n x w : ℕ) → InsideWidth w (downs true n (pos x)) → n ≤ x
unfolding downs
inside-steps zero x w h = omega arith
inside-steps (suc n) zero w h = absurd (below n 0 w h)
inside-steps (suc n) (suc x) w h = let l = inside-steps n x w h in omega arith

steps-inside : (n x w : ℕ) → x < w → n ≤ x → InsideWidth w (downs true n (pos x))
unfolding downs
steps-inside zero x w l h = l
steps-inside (suc n) zero w l h = absurd (omega arith)
steps-inside (suc n) (suc x) w l h = steps-inside n x w (omega arith) (omega arith)

-- across it any number
stays : (n : ℕ) (z : ℤ) → downs false n z ≡ z
unfolding downs
stays zero z = refl
stays (suc n) z = stays n z

-- at last the coordinate is 0
to-zero : (x : ℕ) → downs true x (pos x) ≡ pos 0
unfolding downs
to-zero zero = refl
to-zero (suc x) = to-zero x

-- ---- the three axes

module _ (d : Direction) (W c : Axis → ℕ) (inside : (b : Axis) → c b < W b) where
  abbrev q : Place
  q = λ b. pos (c b)

  -- the edge is no further than any coordinate along the direction is high
  nearest : (e : Direction) (b : Axis) → moves e b ≡ true → steps_to_edge e q ≤ c b
  nearest (along a) b h = let same = ap c (same_axis-eq a b (rw h tt)) in omega arith
  nearest diagonal a1 h = omega arith
  nearest diagonal a2 h = omega arith
  nearest diagonal a3 h = omega arith

  -- and as far as one of them is
  lowest : (e : Direction) → (b : Axis) × (moves e b ≡ true) × (steps_to_edge e q ≡ c b)
  lowest (along a1) = (a1, refl, refl)
  lowest (along a2) = (a2, refl, refl)
  lowest (along a3) = (a3, refl, refl)
  lowest diagonal =
      by_order (c a1) (min (c a2) (c a3)) (λ l. (a1, refl, omega arith))
      (λ l. by_order (c a2) (c a3) (λ k. (a2, refl, omega arith)) (λ k. (a3, refl, omega arith)))

  within : (n : ℕ) → InsideBox W (steps_back d n q) → n ≤ steps_to_edge d q
  within n h =
      let l = lowest d in
      let b : Axis = l.0 in
      let e = back_at d n q b ∙ ap (λ (m : Bool). downs m n (pos (c b))) l.1 in
      let i = inside-steps n (c b) (W b) (subst (InsideWidth (W b)) e (h b)) in
      omega (arith, l.2)

  reached : (n : ℕ) → n ≤ steps_to_edge d q → InsideBox W (steps_back d n q)
  reached n h b = subst (InsideWidth (W b)) (sym (back_at d n q b)) (go (moves d b) refl)
    where
      go : (m : Bool) → moves d b ≡ m → InsideWidth (W b) (downs m n (pos (c b)))
      go true e = steps-inside n (c b) (W b) (inside b) (omega (arith, nearest d b e))
      go false e = subst (InsideWidth (W b)) (sym (stays n (pos (c b)))) (inside b)

  -- the last place has the coordinate 0 where the one begun with has the lowest
  zero-at : (b : Axis) → moves d b ≡ true → steps_to_edge d q ≡ c b → steps_back d (steps_to_edge d q) q b ≡ pos 0
  zero-at b m e =
      back_at d (steps_to_edge d q) q b
      ∙ ap₂ (λ (m : Bool) (n : ℕ). downs m n (pos (c b))) m e
      ∙ to-zero (c b)

on_edge : (d : Direction) (W c : Axis → ℕ) (inside : (b : Axis) → c b < W b)
    → OnEdge d (steps_back d (steps_to_edge d (λ b. pos (c b))) (λ b. pos (c b)))
on_edge (along a1) W c inside = zero-at (along a1) W c inside a1 refl refl
on_edge (along a2) W c inside = zero-at (along a2) W c inside a2 refl refl
on_edge (along a3) W c inside = zero-at (along a3) W c inside a3 refl refl
on_edge diagonal W c inside =
    let l = lowest diagonal W c inside diagonal in
    (l.0, zero-at diagonal W c inside l.0 l.1 l.2)

pub line-from-edge : LineFromEdge
line-from-edge d W x y z lx ly lz =
    subst (λ (q : Place).
    ((n : ℕ) → InsideBox W (steps_back d n q) ↔ (n ≤ steps_to_edge d q))
    × OnEdge d (steps_back d (steps_to_edge d q) q))
    (fun_ext same)
    (λ n. (within d W c inside n, reached d W c inside n), on_edge d W c inside)
  where
    c : Axis → ℕ
    c a1 = x
    c a2 = y
    c a3 = z

    inside : (b : Axis) → c b < W b
    inside a1 = lx
    inside a2 = ly
    inside a3 = lz

    same : (b : Axis) → pos (c b) ≡ place (pos x) (pos y) (pos z) b
    same a1 = refl
    same a2 = refl
    same a3 = refl

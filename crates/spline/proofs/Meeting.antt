-- How two directions meet: at every place their lowerings are either free of each other or both stuck.
use mathlib.Core.Bool.{Bool, false}
use mathlib.Core.Logic.{◌≢◌}
use mathlib.Core.Path.{◌∙◌, ◌≡◌, ap, fun_ext, refl, subst, sym}
use Prim.Native.Nat.{◌<◌, ◌≤◌, suc, ℕ}
use native.Mathlib.Decide.{ℕ_discrete}
use native.Mathlib.Omega.{arith}
use lib.Dec.{T}
use lib.IntN.{ℤ}
use Rattle.sums.proofs.Cases.{by_order}
use Rattle.spline.proofs.Division.{mod_below}
use Rattle.spline.proofs.Lowering.{above-lowers, below_stays, lower_above-comm, lower_above-le, lower_by}
use Rattle.spline.proofs.Lowering.{along-free, along_stuck, both-free, both-stuck}
use Rattle.spline.proofs.Lowering.{diag-free, diag-stuck, lowered-along, lowered-diagonal}
use Rattle.spline.specs.Build.{lowered_place}
use Rattle.spline.specs.Place.{Axis, Direction, Place, ◌⊕◌, a1, a2, a3, along, diagonal, same_axis}
use Rattle.spline.specs.Place.{compose, floor_mod, up_if}
use Rattle.spline.specs.Rule.{cell, lower_above, lowered}

-- Two directions at a place of degree g + 2. Stuck: a step in either leaves the other's lowered place as it
-- is. Free: it is a step there too, and lowering twice gives one place in either order.
pub data Meet (d e : Direction) (g : ℕ) (q : Place) : Type 0 where
  stuck : lowered_place d (suc g) (q ⊕ e) ≡ lowered_place d (suc g) q
      → lowered_place e (suc g) (q ⊕ d) ≡ lowered_place e (suc g) q → Meet d e g q
  free : lowered_place d (suc g) (q ⊕ e) ≡ lowered_place d (suc g) q ⊕ e
      → lowered_place e (suc g) (q ⊕ d) ≡ lowered_place e (suc g) q ⊕ d
      → lowered_place e g (lowered_place d (suc g) q) ≡ lowered_place d g (lowered_place e (suc g) q)
      → Meet d e g q

-- the two directions exchanged
pub meet-sym : {d e : Direction} {g : ℕ} {q : Place} → Meet d e g q → Meet e d g q
meet-sym (stuck p r) = stuck r p
meet-sym (free p r s) = free r p (sym s)

-- axes that the test calls the same are
pub same_axis-eq : (a b : Axis) → T (same_axis a b) → a ≡ b
same_axis-eq a1 a1 t = refl
same_axis-eq a2 a2 t = refl
same_axis-eq a3 a3 t = refl
same_axis-eq a1 a2 t = elim t [ ]
same_axis-eq a1 a3 t = elim t [ ]
same_axis-eq a2 a1 t = elim t [ ]
same_axis-eq a2 a3 t = elim t [ ]
same_axis-eq a3 a1 t = elim t [ ]
same_axis-eq a3 a2 t = elim t [ ]

same_axis-sym : (a b : Axis) → same_axis a b ≡ same_axis b a
same_axis-sym a1 a1 = refl
same_axis-sym a1 a2 = refl
same_axis-sym a1 a3 = refl
same_axis-sym a2 a1 = refl
same_axis-sym a2 a2 = refl
same_axis-sym a2 a3 = refl
same_axis-sym a3 a1 = refl
same_axis-sym a3 a2 = refl
same_axis-sym a3 a3 = refl

module _ (g : ℕ) (q : Place) where
  -- remainder of the place, at degree g + 2
  abbrev u : Axis → ℕ
  u b = floor_mod (suc (suc g)) (q b)

  u-lt : (b : Axis) → u b < suc (suc g)
  u-lt b = mod_below (suc g) (q b)

  -- ---- two axes
  abbrev lower : Axis → Place
  lower a = lowered_place (along a) (suc g) q

  -- the lowering axis a does not move with e
  other : (a e : Axis) → same_axis e a ≡ false
      → lowered_place (along a) (suc g) (q ⊕ along e)
      ≡ (λ b. lower_by (suc g) (lower_above (u a)) (up_if (same_axis e b) (q b)))
  other a e s = fun_ext (λ b. ap (λ (h : Bool).
      lower_by (suc g) (lower_above (floor_mod (suc (suc g)) (up_if h (q a)))) (up_if (same_axis e b) (q b))) s)

  one_free : (a e : Axis) → same_axis e a ≡ false → u a ≢ u e
      → lowered_place (along a) (suc g) (q ⊕ along e) ≡ lower a ⊕ along e
  one_free a e s n = other a e s ∙ fun_ext (λ b.
      along-free (suc g) (same_axis e b) (q b) (u a) (u-lt a)
      (λ t. subst (λ (x : Axis). u a ≢ u x) (same_axis-eq e b t) n))

  one-stuck : (a e : Axis) → same_axis e a ≡ false → u a ≡ u e
      → lowered_place (along a) (suc g) (q ⊕ along e) ≡ lower a
  one-stuck a e s n = other a e s ∙ fun_ext (λ b.
      along_stuck (suc g) (same_axis e b) (q b) (u a)
      (λ t. subst (λ (x : Axis). u a ≡ u x) (same_axis-eq e b t) n))

  bound : (c : ℕ) (b : Axis) → lower_above c (u b) ≤ suc g
  bound c b = omega (arith, lower_above-le c (u b), u-lt b)

  abbrev k : Axis → ℤ
  k = cell (suc (suc g)) q

  comm-lt : (a e : Axis) → u a < u e → lowered_place (along e) g (lower a) ≡ lowered_place (along a) g (lower e)
  comm-lt a e l =
      lowered-along e g k (lowered (along a) u) (bound (u a))
      (omega (arith, above-lowers (u a) (u e) l, u-lt e))
      ∙ fun_ext (λ b. ap (compose g (k b)) (lower_above-comm (u a) (u e) (u b) (omega arith)))
      ∙ sym (lowered-along a g k (lowered (along e) u) (bound (u e))
      (omega (arith, below_stays (u e) (u a) (omega arith), u-lt e)))

  -- two axes are stuck exactly where their remainders are equal
  pub meet-axes : (a e : Axis) → same_axis e a ≡ false → Meet (along a) (along e) g q
  meet-axes a e s = go (ℕ_discrete (u a) (u e))
    where
      s' : same_axis a e ≡ false
      s' = same_axis-sym a e ∙ s

      go : Dec (u a ≡ u e) → Meet (along a) (along e) g q
      go (yes p) = stuck (one-stuck a e s p) (one-stuck e a s' (sym p))
      go (no n) = free (one_free a e s n) (one_free e a s' (λ p. n (sym p)))
          (by_order (u a) (u e) (comm-lt a e) (λ l. sym (comm-lt e a (omega arith))))

  -- ---- an axis and the diagonal
  -- they are stuck exactly where the axis has the last remainder
  pub meet-diagonal : (a : Axis) → Meet (along a) diagonal g q
  meet-diagonal a = by_order (u a) (suc g) inner (λ l. top (omega (arith, u-lt a)))
    where
      small : u a < suc g → (b : Axis) → lower_above (u a) (u b) < suc g
      small l b = by_order (u a) (u b)
          (λ r. omega (arith, above-lowers (u a) (u b) r, u-lt b))
          (λ r. omega (arith, below_stays (u a) (u b) r))

      inner : u a < suc g → Meet (along a) diagonal g q
      inner l = free (fun_ext (λ b. both-free (suc g) (q a) (q b) l))
          (fun_ext (λ b. diag-free (suc g) (same_axis a b) (q b)
          (λ t. subst (λ (x : Axis). u x < suc g) (same_axis-eq a b t) l)))
          (lowered-diagonal g k (lowered (along a) u) (small l)
          ∙ sym (lowered-along a g k u (λ b. omega (arith, u-lt b)) l))

      top : u a ≡ suc g → Meet (along a) diagonal g q
      top p = stuck (fun_ext (λ b. both-stuck (suc g) (q a) (q b) p))
          (fun_ext (λ b. diag-stuck (suc g) (same_axis a b) (q b)
          (λ t. subst (λ (x : Axis). u x ≡ suc g) (same_axis-eq a b t) p)))

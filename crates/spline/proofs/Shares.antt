-- The shares of a window add up to m! at every local place.
use mathlib.Core.Path.{◌∙◌, ◌≡◌, ap, fun_ext, refl, subst, sym}
use Prim.Native.Nat.{◌*◌, ◌+◌, ◌≤◌, suc, ℕ}
use native.Mathlib.Nat.{mul-zero}
use native.Mathlib.Omega.{arith}
use lib.IntN.{+ℤ_idl, +ℤ_idr, +ℤ-suc_ℤ, ◌+ℤ◌, negsuc, pos, suc_ℤ-+ℤ, ℤ}
use Rattle.sums.proofs.Sum.{sum_first, sum-nil, sum_box-cong}
use Rattle.sums.specs.Coefficient.{factorial}
use Rattle.sums.specs.Sum.{sum_box, sum_to}
use Rattle.spline.proofs.Defined.{defined-low, defined-unity}
use Rattle.spline.proofs.Low.{Low, low-neg}
use Rattle.spline.proofs.Multiplicities.{Positive}
use Rattle.spline.proofs.Support.{High}
use Rattle.spline.proofs.Translate.{compose-cells, shift}
use Rattle.spline.proofs.Unity.{total, triple}
use Rattle.spline.specs.Defined.{defined}
use Rattle.spline.specs.Multiplicities.{Multiplicities, degree, extent}
use Rattle.spline.specs.Place.{Axis, Place, a1, a2, a3, compose, place}

-- ---- sums that start one later
-- a sum whose first term is 0
sum-later : (n : ℕ) (f : ℕ → ℕ) → f 0 ≡ 0 → sum_to (suc n) f ≡ sum_to n (λ i. f (suc i))
sum-later n f h = omega (arith, sum_first n f)

triple-suc : (i j k : ℕ) → triple (suc i) (suc j) (suc k) ≡ (λ b. suc (triple i j k b))
triple-suc i j k = fun_ext go
  where
    go : (b : Axis) → triple (suc i) (suc j) (suc k) b ≡ suc (triple i j k b)
    go a1 = refl
    go a2 = refl
    go a3 = refl

-- a sum over a box whose terms are 0 on its low faces
total-later : (n : Axis → ℕ) (f : (Axis → ℕ) → ℕ) → ((i : Axis → ℕ) (b : Axis) → i b ≡ 0 → f i ≡ 0)
    → total (λ b. suc (n b)) f ≡ total n (λ i. f (λ b. suc (i b)))
unfolding sum_box
total-later n f z =
    sum-later (n a3) (λ i3. sum_to (suc (n a2)) (λ i2. row i2 i3))
    (nil (n a2) (λ i2. row i2 0) (λ i2. nil (n a1) _ (λ i1. z (triple i1 i2 0) a3 refl)))
    ∙ ap (sum_to (n a3)) (fun_ext (λ (i3 : ℕ).
    sum-later (n a2) (λ i2. row i2 (suc i3)) (nil (n a1) _ (λ i1. z (triple i1 0 (suc i3)) a2 refl))
    ∙ ap (sum_to (n a2)) (fun_ext (λ (i2 : ℕ).
    sum-later (n a1) (λ i1. f (triple i1 (suc i2) (suc i3))) (z (triple 0 (suc i2) (suc i3)) a1 refl)
    ∙ ap (sum_to (n a1)) (fun_ext (λ (i1 : ℕ). ap f (triple-suc i1 i2 i3)))))))
  where
    row : ℕ → ℕ → ℕ
    row i2 i3 = sum_to (suc (n a1)) (λ i1. f (triple i1 i2 i3))

    nil : (k : ℕ) (h : ℕ → ℕ) → ((i : ℕ) → h i ≡ 0) → sum_to (suc k) h ≡ 0
    nil k h e = ap (sum_to (suc k)) (fun_ext e) ∙ sum-nil (suc k)

-- ---- the window
-- −1 + (i + 1) is i
minus_one : (i : ℕ) → negsuc 0 +ℤ pos (suc i) ≡ pos i
minus_one i =
    +ℤ-suc_ℤ (negsuc 0) (pos i)
    ∙ sym (suc_ℤ-+ℤ (negsuc 0) (pos i))
    ∙ +ℤ_idl (pos i)

up_one : (m u i : ℕ) → compose m (negsuc 0) u +ℤ pos (m * suc i) ≡ pos (m * i + u)
up_one m u i = sym (compose-cells m (negsuc 0) u (suc i)) ∙ ap (λ (k : ℤ). compose m k u) (minus_one i)

module _ (v : Multiplicities) (p : Positive v) where
  abbrev m : ℕ
  m = degree v

  -- one cell down from a local place, every coordinate is at most 0
  down-low : (u : ℕ) → u ≤ m → Low (compose m (negsuc 0) u)
  down-low u h = low-neg (m * 1) u (omega arith)

  -- so the sum over the shifts of that place begins with 0 on each axis, and is the sum over the window
  shares-total : (u : Axis → ℕ) → ((b : Axis) → u b ≤ m)
      → total (extent v) (λ i. defined v (λ b. pos (m * i b + u b))) ≡ factorial m
  shares-total u h =
      let q : Place = λ b. compose m (negsuc 0) (u b) in
      let still : (b : Axis) (n : ℕ) → n ≡ 0 → Low (q b +ℤ pos (m * n))
      = λ b n e. subst (λ (x : ℕ). Low (q b +ℤ pos x)) (sym (ap (λ (x : ℕ). m * x) e ∙ mul-zero m))
      (subst Low (sym (+ℤ_idr (q b))) (down-low (u b) (h b))) in
      ap (total (extent v)) (fun_ext (λ (i : Axis → ℕ).
      ap (defined v) (fun_ext (λ (b : Axis). sym (up_one m (u b) (i b))))))
      ∙ sym (total-later (extent v) (λ i. defined v (shift m q i))
      (λ i b e. (defined-low v).zero_low (shift m q i) b (still b (i b) e)))
      ∙ (defined-unity v p).adds-up q (λ b. suc (extent v b)) (λ b. down-low (u b) (h b))
      (λ b. subst (High (m * extent v b)) (sym (up_one m (u b) (extent v b))) (omega arith))

  -- at a local place (u1, u2, u3), each at most m, the numbers at m × i + u over 0 ≤ i < E add up to m!
  pub shares-add-up : (u1 u2 u3 : ℕ) → u1 ≤ m → u2 ≤ m → u3 ≤ m
      → sum_box (extent v a1) (extent v a2) (extent v a3)
      (λ i1 i2 i3. defined v (place (pos (m * i1 + u1)) (pos (m * i2 + u2)) (pos (m * i3 + u3))))
      ≡ factorial m
  shares-add-up u1 u2 u3 h1 h2 h3 =
      sum_box-cong (extent v a1) (extent v a2) (extent v a3) _ _
      (λ i1 i2 i3 l1 l2 l3. ap (defined v) (fun_ext (same i1 i2 i3)))
      ∙ shares-total (triple u1 u2 u3) within
    where
      same : (i1 i2 i3 : ℕ) (b : Axis)
          → place (pos (m * i1 + u1)) (pos (m * i2 + u2)) (pos (m * i3 + u3)) b
          ≡ pos (m * triple i1 i2 i3 b + triple u1 u2 u3 b)
      same i1 i2 i3 a1 = refl
      same i1 i2 i3 a2 = refl
      same i1 i2 i3 a3 = refl

      within : (b : Axis) → triple u1 u2 u3 b ≤ m
      within a1 = h1
      within a2 = h2
      within a3 = h3

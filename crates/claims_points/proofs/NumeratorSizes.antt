-- N and U are at most the largest lent number times m!×D^m, where the shares add up.
use mathlib.Core.Bool.{true}
use mathlib.Core.Path.{◌∙◌, ◌≡◌, ap, fun_ext}
use Prim.Native.Nat.{◌*◌, ◌-◌, ◌<◌, ◌≤◌, suc, ℕ}
use native.Mathlib.Nat.{mul-le-mul_left, mul-le-mul_right}
use native.Mathlib.Omega.{arith}
use borrow.Author.Tests.{eqb-true}
use lib.IntN.{◌*ℤ◌, nat_abs, pos, ℤ}
use Rattle.sums.proofs.Multinomial.{bernstein-sum, sum_simplex_z-pos}
use Rattle.sums.proofs.Search.{all-at}
use Rattle.sums.proofs.Signed.{abs-mul}
use Rattle.sums.proofs.SumZ.{sum_box_z-pos, sum_z-weighed}
use Rattle.sums.specs.Coefficient.{factorial}
use Rattle.sums.specs.Simplex.{sum_simplex, sum_simplex_z}
use Rattle.sums.specs.Sum.{sum_box, sum_box_z}
use Rattle.spline.specs.Multiplicities.{Multiplicities, degree, extent}
use Rattle.spline.specs.Place.{Axis, a1, a2, a3}
use Rattle.divisor_checks.specs.Divisor.{scale}
use Rattle.axis_order.specs.Weights.{placing_cell, weight_sum}
use Rattle.axis_order.specs.declared.Placing.{Placing}
use Rattle.answers.specs.Bernstein.{shift_numerator, term_weight, uncertainty_numerator}
use Rattle.blended.specs.Blending.{adds_up, all_simplex, blended_correction, blended_uncertainty, local_place}
use Rattle.blended.specs.Blending.{share, share_sum}

-- ---- sums of terms that are at most K times their weights

box-weighed : (n1 n2 n3 K : ℕ) (f : ℕ → ℕ → ℕ → ℤ) (w : ℕ → ℕ → ℕ → ℕ)
    → ((i1 i2 i3 : ℕ) → nat_abs (f i1 i2 i3) ≤ K * w i1 i2 i3)
    → nat_abs (sum_box_z n1 n2 n3 f) ≤ K * sum_box n1 n2 n3 w
unfolding sum_box_z sum_box
box-weighed n1 n2 n3 K f w h =
    sum_z-weighed n3 K _ _ (λ i3 l3. sum_z-weighed n2 K _ _ (λ i2 l2. sum_z-weighed n1 K _ _ (λ i1 l1.
    h i1 i2 i3)))

-- the (b0..b3) that a sum over the simplex goes through
abbrev Simplex : ℕ → (ℕ → ℕ → ℕ → ℕ → Type 0) → Type 0
Simplex m P = (p r s : ℕ) → p < suc m → r < suc p → s < suc r → P (m - p) (p - r) (r - s) s

simplex-weighed : (m K : ℕ) (f : ℕ → ℕ → ℕ → ℕ → ℤ) (w : ℕ → ℕ → ℕ → ℕ → ℕ)
    → Simplex m (λ b0 b1 b2 b3. nat_abs (f b0 b1 b2 b3) ≤ K * w b0 b1 b2 b3)
    → nat_abs (sum_simplex_z m f) ≤ K * sum_simplex m w
unfolding sum_simplex_z sum_simplex
simplex-weighed m K f w h =
    sum_z-weighed (suc m) K _ _ (λ p lp. sum_z-weighed (suc p) K _ _ (λ r lr.
    sum_z-weighed (suc r) K _ _ (λ s ls. h p r s lp lr ls)))

-- ---- blended numbers and their sums

module _ (v : Multiplicities) (net : ℕ → ℕ) (q : Placing) (even : adds_up v net q ≡ true) (K : ℕ) where
  abbrev m : ℕ
  m = degree v

  -- the shares of each local place add up to m!
  shares-are : Simplex m (λ b0 b1 b2 b3. share_sum v net (local_place q b1 b2 b3) ≡ factorial m)
  unfolding adds_up all_simplex
  shares-are p r s lp lr ls =
      eqb-true _ _ (all-at (suc r) _ (all-at (suc p) _ (all-at (suc m) _ even p lp) r lr) s ls)

  module _ (entry : ℕ → ℕ → ℕ → ℤ) (small : (j1 j2 j3 : ℕ) → nat_abs (entry j1 j2 j3) ≤ K) where
    -- a blended number is at most K times its shares
    blended-size : (k u : Axis → ℕ) → nat_abs (blended_correction v net entry k u) ≤ K * share_sum v net u
    unfolding blended_correction share_sum
    blended-size k u =
        box-weighed (extent v a1) (extent v a2) (extent v a3) K _ (share v net u) (λ i1 i2 i3.
        let c = entry (k a1 - i1) (k a2 - i2) (k a3 - i3) in
        let n = share v net u i1 i2 i3 in
        let e = abs-mul (pos n) c in
        omega (arith, e, mul-le-mul_left n (small (k a1 - i1) (k a2 - i2) (k a3 - i3))))

    abbrev term : ℕ → ℕ → ℕ → ℕ → ℤ
    term b0 b1 b2 b3 =
        blended_correction v net entry (placing_cell q) (local_place q b1 b2 b3)
        *ℤ pos (term_weight m q b0 b1 b2 b3)

    -- a term of N is at most K times m! times its weight
    term-size : Simplex m (λ b0 b1 b2 b3.
        nat_abs (term b0 b1 b2 b3) ≤ K * factorial m * term_weight m q b0 b1 b2 b3)
    term-size p r s lp lr ls =
        let w = term_weight m q (m - p) (p - r) (r - s) s in
        let u = local_place q (p - r) (r - s) s in
        let b = blended_correction v net entry (placing_cell q) u in
        let within : nat_abs b ≤ K * factorial m
        = rw (shares-are p r s lp lr ls) at (blended-size (placing_cell q) u) in
        omega (arith, abs-mul b (pos w), mul-le-mul_right w within)

    -- N is at most K times m!×D^m
    pub numerator-size : nat_abs (shift_numerator v net entry q) ≤ K * scale m (weight_sum q)
    unfolding shift_numerator
    numerator-size =
        omega (
          arith,
          simplex-weighed m (K * factorial m) term (term_weight m q) term-size,
          ap (λ (n : ℕ). K * factorial m * n) (bernstein-sum m q.l0 q.l1 q.l2 q.l3),
        )

  -- U is N of the uncertainties as signed numbers
  blended-is : (entry : ℕ → ℕ → ℕ → ℕ) (k u : Axis → ℕ)
      → blended_correction v net (λ j1 j2 j3. pos (entry j1 j2 j3)) k u
      ≡ pos (blended_uncertainty v net entry k u)
  unfolding blended_correction blended_uncertainty
  blended-is entry k u = sum_box_z-pos (extent v a1) (extent v a2) (extent v a3) _

  uncertainty-is : (entry : ℕ → ℕ → ℕ → ℕ)
      → shift_numerator v net (λ j1 j2 j3. pos (entry j1 j2 j3)) q ≡ pos (uncertainty_numerator v net entry q)
  unfolding shift_numerator uncertainty_numerator
  uncertainty-is entry =
      ap (sum_simplex_z m)
      (fun_ext (λ b0. fun_ext (λ b1. fun_ext (λ b2. fun_ext (λ b3.
      ap (λ (z : ℤ). z *ℤ pos (term_weight m q b0 b1 b2 b3))
      (blended-is entry (placing_cell q) (local_place q b1 b2 b3)))))))
      ∙ sum_simplex_z-pos m (λ b0 b1 b2 b3.
      blended_uncertainty v net entry (placing_cell q) (local_place q b1 b2 b3) * term_weight m q b0 b1 b2 b3)

  pub uncertainty-size : (entry : ℕ → ℕ → ℕ → ℕ) → ((j1 j2 j3 : ℕ) → entry j1 j2 j3 ≤ K)
      → uncertainty_numerator v net entry q ≤ K * scale m (weight_sum q)
  uncertainty-size entry small =
      rw (uncertainty-is entry) at (numerator-size (λ j1 j2 j3. pos (entry j1 j2 j3)) small)

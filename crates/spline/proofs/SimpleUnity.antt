-- The simple net adds up to 1.
use mathlib.Core.Path.{◌∙◌, ◌≡◌, ap, fun_ext, refl, subst}
use Prim.Native.Nat.{◌*◌, ◌+◌, suc, zero, ℕ}
use native.Mathlib.Nat.{one-mul}
use native.Mathlib.Omega.{arith}
use lib.IntN.{+ℤ_idr, +ℤ-suc_ℤ, ◌+ℤ◌, negsuc, pos, suc_ℤ, ℤ}
use Rattle.sums.proofs.Sum.{sum_box-product}
use Rattle.sums.specs.Coefficient.{factorial}
use Rattle.sums.specs.Sum.{sum_to}
use Rattle.spline.proofs.Low.{Low}
use Rattle.spline.proofs.Support.{High}
use Rattle.spline.proofs.Unity.{Unity}
use Rattle.spline.specs.Build.{is_one, simple}
use Rattle.spline.specs.Place.{Axis, a1, a2, a3}

-- 1 past the place 1, else 0
abbrev past_one : ℤ → ℕ
past_one (pos zero) = 0
past_one (pos (suc zero)) = 0
past_one (pos (suc (suc n))) = 1
past_one (negsuc n) = 0

past-suc : (z : ℤ) → past_one (suc_ℤ z) ≡ past_one z + is_one z
past-suc (pos zero) = refl
past-suc (pos (suc zero)) = refl
past-suc (pos (suc (suc n))) = refl
past-suc (negsuc zero) = refl
past-suc (negsuc (suc n)) = refl

-- ---- along a line: the place 1 is passed once
line : (z : ℤ) (n : ℕ) → past_one z + sum_to n (λ i. is_one (z +ℤ pos i)) ≡ past_one (z +ℤ pos n)
unfolding sum_to
line z zero = omega (arith, ap past_one (+ℤ_idr z))
line z (suc n) = omega (arith, line z n, past-suc (z +ℤ pos n), ap past_one (+ℤ-suc_ℤ z (pos n)))

past-low : (z : ℤ) → Low z → past_one z ≡ 0
past-low (pos zero) l = refl
past-low (pos (suc zero)) l = refl
past-low (pos (suc (suc n))) l = omega arith
past-low (negsuc n) l = refl

past-high : (z : ℤ) → High 2 z → past_one z ≡ 1
past-high (pos zero) l = omega arith
past-high (pos (suc zero)) l = omega arith
past-high (pos (suc (suc n))) l = refl
past-high (negsuc _) l = elim l [ ]

line-one : (z : ℤ) (n : ℕ) → Low z → High 2 (z +ℤ pos (1 * n))
    → sum_to n (λ i. is_one (z +ℤ pos (1 * i))) ≡ 1
line-one z n l h =
    let k : High 2 (z +ℤ pos n) = subst (λ (j : ℕ). High 2 (z +ℤ pos j)) (one-mul n) h in
    ap (sum_to n) (fun_ext (λ (i : ℕ). ap (λ (j : ℕ). is_one (z +ℤ pos j)) (one-mul i)))
    ∙ omega (arith, line z n, past-low z l, past-high (z +ℤ pos n) k)

-- ---- over a box: the product of three lines
pub simple-unity : Unity 1 (λ b. 2) (factorial 1) simple
unfolding simple factorial
simple-unity = record {
  adds-up = λ q n l h.
      let term : Axis → ℕ → ℕ = λ b i. is_one (q b +ℤ pos (1 * i)) in
      let one : (b : Axis) → sum_to (n b) (term b) ≡ 1 = λ b. line-one (q b) (n b) (l b) (h b) in
      sum_box-product (n a1) (n a2) (n a3) (term a1) (term a2) (term a3) ∙ rw (one a1, one a2, one a3);
}

-- Partition of unity: the numbers of a net at places a whole degree apart add up to m!.
use mathlib.Core.List.{List, [], ◌∷◌}
use mathlib.Core.Path.{◌∙◌, ◌≡◌, ap, fun_ext, subst}
use Prim.Native.Nat.{◌*◌, ◌+◌, suc, zero, ℕ}
use native.Mathlib.Omega.{arith}
use lib.ListN.{length}
use Rattle.sums.proofs.Sum.{sum_box-add, sum_box-nil}
use Rattle.sums.specs.Coefficient.{factorial}
use Rattle.sums.specs.Sum.{sum_box}
use Rattle.spline.proofs.Low.{Low, low-down, lowered-low}
use Rattle.spline.proofs.Support.{High, amount, extents, high_down, high-mono, lowered-high}
use Rattle.spline.proofs.Support.{wider, wider-mul}
use Rattle.spline.proofs.Translate.{down-plus, lowered-shift, shift, shift-⊖}
use Rattle.spline.specs.Build.{built, lowered_place, stepped, sum_back}
use Rattle.spline.specs.Place.{Axis, Direction, Net, Place, ◌⊖◌, a1, a2, a3, moves}

-- three numbers, one to an axis
abbrev pub triple : ℕ → ℕ → ℕ → Axis → ℕ
triple i1 i2 i3 a1 = i1
triple i1 i2 i3 a2 = i2
triple i1 i2 i3 a3 = i3

-- the sum over all i with i < n on every axis
abbrev pub total : (Axis → ℕ) → ((Axis → ℕ) → ℕ) → ℕ
total n f = sum_box (n a1) (n a2) (n a3) (λ i1 i2 i3. f (triple i1 i2 i3))

-- the sum over shifts by whole degrees is T, wherever the shifts reach past the box on both sides
pub record Unity (m : ℕ) (E : Axis → ℕ) (T : ℕ) (C : Net) : Type 0 where
  pub adds-up : (q : Place) (n : Axis → ℕ)
      → ((b : Axis) → Low (q b)) → ((b : Axis) → High (m * E b) (shift m q n b))
      → total n (λ i. C (shift m q i)) ≡ T

-- ---- a step's sums are r times those of the net before
module _ (d : Direction) (g : ℕ) (E : Axis → ℕ) (T : ℕ) (G : Net) (v : Unity g E T G) where
  abbrev F : Net
  F p = G (lowered_place d g p)

  -- the shifts of q reach past the box, even from r steps back
  abbrev Past : (Axis → ℕ) → ℕ → Place → Type 0
  Past n r q = (b : Axis) → High (suc g * E b + amount (moves d b) r) (shift (suc g) q n b)

  lowered-sum : (n : Axis → ℕ) (r : ℕ) (q : Place) → ((b : Axis) → Low (q b)) → Past n r q
      → total n (λ i. F (shift (suc g) q i)) ≡ T
  lowered-sum n r q l h =
      ap (total n) (fun_ext (λ (i : Axis → ℕ). ap G (lowered-shift d g q i)))
      ∙ v.adds-up (lowered_place d g q) n (λ b. lowered-low d g q b (l b)) past
    where
      past : (b : Axis) → High (g * E b) (shift g (lowered_place d g q) n b)
      past b =
          subst (λ (p : Place). High (g * E b) (p b)) (lowered-shift d g q n)
          (lowered-high d g (E b) (shift (suc g) q n) b
          (high-mono (suc g * E b + amount (moves d b) r) (suc g * E b) (shift (suc g) q n b)
          (omega arith) (h b)))

  back_sum : (n : Axis → ℕ) (r : ℕ) (q : Place) → ((b : Axis) → Low (q b)) → Past n r q
      → total n (λ i. sum_back d F r (shift (suc g) q i)) ≡ r * T
  unfolding sum_back
  back_sum n zero q l h = sum_box-nil (n a1) (n a2) (n a3) ∙ omega arith
  back_sum n (suc r) q l h =
      let p : Place = q ⊖ d in
      let l' : (b : Axis) → Low (p b) = λ b. low-down (moves d b) (q b) (l b) in
      let h' : Past n r p
      = λ b. subst (High (suc g * E b + amount (moves d b) r)) (down-plus (moves d b) (q b) (suc g * n b))
      (high_down (moves d b) (suc g * E b) r (shift (suc g) q n b) (h b)) in
      let one : total n (λ i. F (shift (suc g) p i)) ≡ T = lowered-sum n r p l' h' in
      let rest : total n (λ i. sum_back d F r (shift (suc g) p i)) ≡ r * T = back_sum n r p l' h' in
      ap (total n) (fun_ext (λ (i : Axis → ℕ).
      ap (λ (x : Place). F x + sum_back d F r x) (shift-⊖ d (suc g) q i)))
      ∙ sum_box-add (n a1) (n a2) (n a3)
      (λ i1 i2 i3. F (shift (suc g) p (triple i1 i2 i3)))
      (λ i1 i2 i3. sum_back d F r (shift (suc g) p (triple i1 i2 i3)))
      ∙ omega arith

  -- where a net of degree g adds up to T, its step adds up to (g + 1) × T
  pub stepped-unity : Unity (suc g) (wider d E) (suc g * T) (stepped d g G)
  unfolding stepped
  stepped-unity = record {
    adds-up = λ q n l h.
        back_sum n (suc g) q l
        (λ b. subst (λ (N : ℕ). High N (shift (suc g) q n b)) (wider-mul (moves d b) (suc g) (E b)) (h b));
  }

-- ---- along an order
-- so what an order builds from a net that adds up to g! adds up to the factorial of its degree
pub built-unity : (ds : List Direction) (g : ℕ) (E : Axis → ℕ) (G : Net) → Unity g E (factorial g) G
    → Unity (g + length ds) (extents ds E) (factorial (g + length ds)) (built ds g G)
unfolding built factorial
built-unity [] g E G v =
    let e : g ≡ g + 0 = omega arith in
    subst (λ (m : ℕ). Unity m E (factorial m) G) e v
built-unity (d ∷ ds) g E G v =
    let e : suc g + length ds ≡ g + suc (length ds) = omega arith in
    subst (λ (m : ℕ). Unity m (extents (d ∷ ds) E) (factorial m) (built (d ∷ ds) g G)) e
    (built-unity ds (suc g) (wider d E) (stepped d g G) (stepped-unity d g E (factorial g) G v))

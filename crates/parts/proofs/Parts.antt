-- Parts of the Bernstein sums fit 64 bits, and together they are N and U.
use mathlib.Core.List.{List}
use mathlib.Core.Path.{◌∙◌, ◌≡◌, ap, ap₂, refl}
use Prim.Native.Nat.{◌*◌, ◌+◌, ◌<◌, ◌^◌, ◌≤◌, suc, ℕ}
use native.Mathlib.Nat.{le_trans, mul-le-mul_left, mul-le-mul_right}
use native.Mathlib.Omega.{arith}
use lib.IntN.{◌*ℤ◌, nat_abs, pos, ℤ}
use Rattle.sums.proofs.Signed.{abs-mul}
use Rattle.sums.proofs.Simplex.{sum-tetrahedron, sum_z-tetrahedron}
use Rattle.sums.proofs.Sum.{sum-cong, sum-le, sum-mul, sum-next, sum-part, sum-zero}
use Rattle.sums.proofs.SumZ.{sum_z-cong, sum_z-next, sum_z-weighed, sum_z-zero}
use Rattle.sums.specs.Coefficient.{factorial}
use Rattle.sums.specs.Fill.{number_at}
use Rattle.sums.specs.Simplex.{sum_simplex, sum_simplex_z}
use Rattle.sums.specs.Sum.{sum_to, sum_z}
use Rattle.spline.specs.Multiplicities.{degree}
use Rattle.unit.specs.Unit.{net_of, sizes}
use Rattle.unit.specs.declared.Unit.{Unit}
use Rattle.divisor_checks.specs.Divisor.{limit}
use Rattle.axis_order.specs.Weights.{placing_cell}
use Rattle.axis_order.specs.declared.Placing.{Placing}
use Rattle.answers.specs.Bernstein.{shift_numerator, uncertainty_numerator}
use Rattle.parts.proofs.Weights.{weight-at, weights-total}
use Rattle.parts.specs.Parts.{BlendedSizes, add_parts, first_parts, part, weighed}
use Rattle.parts.specs.Weights.{Scaled, weight_at}
use Rattle.tetrahedron.proofs.Numbers.{count-is, local-is}
use Rattle.tetrahedron.specs.LocalPlaces.{local_places}
use Rattle.tetrahedron.specs.declared.local.LocalPlace.{LocalPlace}
use Rattle.blended.specs.Blend.{blended_correction_at, blended_uncertainty_at, correction_at, local_of}
use Rattle.blended.specs.Blend.{uncertainty_at}
use Rattle.blended.specs.Blending.{blended_correction, blended_uncertainty}

-- ---- parts as a loop makes them

module _ (m : ℕ) (q : Placing) (shift : ℕ → ℤ) (spread : ℕ → ℕ) where
  -- the parts of no local place are 0
  pub parts_none : part (pos 0) 0 ≡ first_parts m q shift spread 0
  unfolding first_parts
  parts_none =
      rw (sum_z-zero (λ t. shift t *ℤ pos (weight_at m q t)), sum-zero (λ t. spread t * weight_at m q t)) refl

  -- the parts of one local place more are the sum with its own
  pub parts_next : (t : ℕ)
      → add_parts (first_parts m q shift spread t) (weighed (shift t) (spread t) (weight_at m q t))
      ≡ first_parts m q shift spread (t + 1)
  unfolding first_parts
  parts_next t =
      rw (
        sum_z-next t (λ i. shift i *ℤ pos (weight_at m q i)),
        sum-next t (λ i. spread i * weight_at m q i),
      ) refl

-- ---- sizes

module _ {m : ℕ} {q : Placing} {shift : ℕ → ℤ} {spread : ℕ → ℕ} (scaled : Scaled m q)
    (sized : BlendedSizes m shift spread) where
  -- m! times the weights of the first local places is within the limit
  weights-within : (n : ℕ) → n ≤ local_places m → factorial m * sum_to n (weight_at m q) ≤ limit
  weights-within n h =
      let all = weights-total m q scaled.degree in
      let part = sum-part n (local_places m) (weight_at m q) h in
      let p = mul-le-mul_left (factorial m) part in
      omega (arith, scaled.scaled, ap (λ (k : ℕ). factorial m * k) all)

  module _ (t : ℕ) (l : t < local_places m) where
    abbrev w : ℕ
    w = weight_at m q t

    -- a blended correction is at most 32767 times m!
    pub shift-size : nat_abs (shift t) ≤ 32767 * factorial m
    shift-size = sized.of_shifts t l

    -- m! times one weight is within the limit
    one-within : factorial m * w ≤ limit
    one-within =
        let e = sum-next t (weight_at m q) in
        let p : factorial m * w ≤ factorial m * sum_to (t + 1) (weight_at m q)
        = mul-le-mul_left (factorial m) (omega arith) in
        le_trans p (weights-within (t + 1) (omega arith))

    -- a blended correction times its weight fits 64 bits with a sign
    pub shift-weighed : nat_abs (shift t) * w < 2 ^ 63
    shift-weighed = omega (arith, mul-le-mul_right w shift-size, one-within)

    -- a blended uncertainty times its weight fits 64 bits
    pub spread-weighed : spread t * w < 2 ^ 64
    spread-weighed = omega (arith, mul-le-mul_right w (sized.of_spreads t l), one-within)

    -- so does the sum of the corrections' products as far as this one
    pub next-numerator : nat_abs (first_parts m q shift spread t).numerator + nat_abs (shift t *ℤ pos w)
        < 2 ^ 63
    unfolding first_parts
    next-numerator =
        let K = 32767 * factorial m in
        let before = sum_z-weighed t K (λ i. shift i *ℤ pos (weight_at m q i)) (weight_at m q)
        (λ i k. rw (abs-mul (shift i) (pos (weight_at m q i)))
        (mul-le-mul_right (weight_at m q i) (sized.of_shifts i (omega arith)))) in
        let here = rw (← (abs-mul (shift t) (pos w))) at (mul-le-mul_right w shift-size) in
        let e = sum-next t (weight_at m q) in
        let total = weights-within (t + 1) (omega arith) in
        omega (arith, before, here, ap (λ (k : ℕ). factorial m * k) e, total)

    -- and the sum of the uncertainties' products
    pub next-uncertainty : (first_parts m q shift spread t).uncertainty + spread t * w < 2 ^ 64
    unfolding first_parts
    next-uncertainty =
        let K = 65535 * factorial m in
        let before = rw (sum-mul t K (weight_at m q)) at
        (sum-le t (λ i. spread i * weight_at m q i) (λ i. K * weight_at m q i)
        (λ i k. mul-le-mul_right (weight_at m q i) (sized.of_spreads i (omega arith)))) in
        let here = mul-le-mul_right w (sized.of_spreads t l) in
        let e = sum-next t (weight_at m q) in
        let total = weights-within (t + 1) (omega arith) in
        omega (arith, before, here, ap (λ (k : ℕ). factorial m * k) e, total)

-- ---- all parts

module _ (u : Unit) (q : Placing) (net : List ℕ) (few : degree (net_of u) ≤ 9) where
  abbrev m : ℕ
  m = degree (net_of u)

  -- the sum over the numbers of local places is N
  numerator-is : (corrections : List ℤ)
      → sum_z (local_places m) (λ t. blended_correction_at u net corrections q t *ℤ pos (weight_at m q t))
      ≡ shift_numerator (net_of u) (number_at net) (correction_at (sizes u) corrections) q
  unfolding shift_numerator sum_simplex_z blended_correction_at
  numerator-is corrections =
      let at : LocalPlace → ℤ = λ l.
      blended_correction (net_of u) (number_at net) (correction_at (sizes u) corrections) (placing_cell q)
      (local_of q l) in
      rw (count-is m few)
      (sum_z-tetrahedron (suc m) _
      ∙ sum_z-cong (suc m) _ _ (λ p lp. sum_z-cong (suc p) _ _ (λ r lr. sum_z-cong (suc r) _ _ (λ s ls.
      ap₂ (λ (c : ℤ) (w : ℕ). c *ℤ pos w)
      (ap at (local-is p r s (omega arith) (omega arith) (omega arith)))
      (weight-at m q p r s (omega arith) (omega arith) (omega arith))))))

  -- and U
  uncertainty-is : (uncertainties : List ℕ)
      → sum_to (local_places m) (λ t. blended_uncertainty_at u net uncertainties q t * weight_at m q t)
      ≡ uncertainty_numerator (net_of u) (number_at net) (uncertainty_at (sizes u) uncertainties) q
  unfolding uncertainty_numerator sum_simplex blended_uncertainty_at
  uncertainty-is uncertainties =
      let at : LocalPlace → ℕ = λ l.
      blended_uncertainty (net_of u) (number_at net) (uncertainty_at (sizes u) uncertainties) (placing_cell q)
      (local_of q l) in
      rw (count-is m few)
      (sum-tetrahedron (suc m) _
      ∙ sum-cong (suc m) _ _ (λ p lp. sum-cong (suc p) _ _ (λ r lr. sum-cong (suc r) _ _ (λ s ls.
      ap₂ (λ (c w : ℕ). c * w)
      (ap at (local-is p r s (omega arith) (omega arith) (omega arith)))
      (weight-at m q p r s (omega arith) (omega arith) (omega arith))))))

  -- the parts of blended numbers, wherever these are held, are N and U
  pub parts_are : (corrections : List ℤ) (uncertainties : List ℕ) (shift : ℕ → ℤ) (spread : ℕ → ℕ)
      → ((t : ℕ) → t < local_places m → shift t ≡ blended_correction_at u net corrections q t)
      → ((t : ℕ) → t < local_places m → spread t ≡ blended_uncertainty_at u net uncertainties q t)
      → first_parts m q shift spread (local_places m)
      ≡ part (shift_numerator (net_of u) (number_at net) (correction_at (sizes u) corrections) q)
      (uncertainty_numerator (net_of u) (number_at net) (uncertainty_at (sizes u) uncertainties) q)
  unfolding first_parts
  parts_are corrections uncertainties shift spread hc hu =
      ap₂ part
      (sum_z-cong (local_places m) _ _ (λ t l. ap (λ (c : ℤ). c *ℤ pos (weight_at m q t)) (hc t l))
      ∙ numerator-is corrections)
      (sum-cong (local_places m) _ _ (λ t l. ap (λ (c : ℕ). c * weight_at m q t) (hu t l))
      ∙ uncertainty-is uncertainties)

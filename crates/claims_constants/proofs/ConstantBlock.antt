-- A block that holds one measured correction throughout is answered with exactly this correction: no entry is
-- a gap, each blended number is the correction times m!, and the weights add up to D.
use mathlib.Core.Bool.{Bool, ◌&&◌, and-false, false}
use mathlib.Core.List.{List}
use mathlib.Core.Path.{◌∙◌, ◌≡◌, ap, subst, sym}
use Prim.Native.Nat.{◌%◌, ◌+◌, ◌-◌, ◌/◌, ◌<◌, ◌^◌, ℕ}
use native.Mathlib.Omega.{arith}
use lib.IntN.{*ℤ_comm, ◌*ℤ◌, pos, ℤ}
use lib.ListN.{get_or, length}
use Rattle.sums.proofs.Multinomial.{bernstein-constant, sum_simplex_z-cong}
use Rattle.sums.proofs.Places.{index_back}
use Rattle.sums.proofs.Search.{nowhere-first}
use Rattle.sums.proofs.Signed.{*ℤ-assoc}
use Rattle.sums.proofs.SumZ.{sum_box_z-cong, sum_box_z-mulr, sum_box_z-pos}
use Rattle.sums.specs.Coefficient.{factorial}
use Rattle.sums.specs.Fill.{number_at}
use Rattle.sums.specs.Search.{nowhere}
use Rattle.sums.specs.Simplex.{bernstein}
use Rattle.spline.proofs.Multiplicities.{limits-positive}
use Rattle.spline.specs.Box.{places}
use Rattle.spline.specs.Multiplicities.{Multiplicities, degree, extent}
use Rattle.spline.specs.Place.{Axis, a1, a2, a3}
use Rattle.unit.proofs.Limits.{net-limits}
use Rattle.unit.specs.Gaps.{is_gap}
use Rattle.unit.specs.Unit.{net_of, sizes}
use Rattle.unit.specs.declared.Unit.{Unit}
use Rattle.limits.proofs.Accepted.{lent}
use Rattle.limits.specs.Limits.{lent_checks}
use Rattle.divisor_checks.specs.Divisor.{scale}
use Rattle.axis_order.specs.Weights.{placing_cell, weight_sum}
use Rattle.axis_order.specs.declared.Placing.{Placing}
use Rattle.placing.proofs.Placed.{point-accepted}
use Rattle.placing.specs.Place.{position_checks}
use Rattle.placing.specs.Placing.{placing}
use Rattle.placing.proofs.Weights.{weights-add-up}
use Rattle.possible.proofs.PlacedPossible.{placed}
use Rattle.blending.proofs.Windows.{entry_in}
use Rattle.answers.proofs.Point.{two-calls}
use Rattle.answers.specs.Bernstein.{shift_numerator, uncertainty_numerator}
use Rattle.answers.specs.Point.{point_answer}
use Rattle.claims_rule.specs.Rule.{HoldsDefined}
use Rattle.claims_nets.proofs.Held.{holds_of}
use Rattle.claims_points.proofs.Fraction.{fraction}
use Rattle.claims_points.proofs.TwoCalls.{lent_is}
use Rattle.claims_constants.proofs.WindowShares.{adds-up, window-shares}
use Rattle.claims_constants.specs.Placings.{PlacedConstantBlock}
use Rattle.claims_constants.specs.Points.{Constant, ConstantBlock}
use Rattle.window.specs.Window.{in_window_on}
use Rattle.blended.proofs.Answers.{fit}
use Rattle.blended.proofs.LocalPlaces.{local-le}
use Rattle.blended.specs.Blend.{correction_at, uncertainty_at}
use Rattle.blended.specs.Blending.{blended_correction, local_place, share, share_sum}
use Rattle.blended.specs.Gaps.{first_gap, window_gap}
use Rattle.std.specs.Prelude.{Ok, Result}
use Rattle.checks.specs.Checks.{no_refusal}
use Rattle.checks.specs.declared.Refusal.{Refusal}
use Rattle.answers.specs.declared.Fraction.{Fraction}

-- no entry of a constant block is a gap
constant-measured : (v : Multiplicities) (n k : Axis → ℕ) (corrections : List ℤ) (c : ℤ)
    → Constant (places n) corrections c → first_gap v n (correction_at n corrections) k ≡ nowhere
unfolding first_gap window_gap
constant-measured v n k corrections c block =
    nowhere-first _ (places n) (λ i l.
    let in_window : Bool
    = in_window_on (extent v a1) (k a1) (i % n a1)
    && in_window_on (extent v a2) (k a2) (i / n a1 % n a2)
    && in_window_on (extent v a3) (k a3) (i / n a1 / n a2) in
    let measured : is_gap (correction_at n corrections (i % n a1) (i / n a1 % n a2) (i / n a1 / n a2)) ≡ false
    = ap (λ (j : ℕ). is_gap (get_or corrections j (pos 0))) (index_back (n a1) (n a2) i)
    ∙ ap is_gap (block.throughout i l)
    ∙ block.measured in
    ap (λ (t : Bool). in_window && t) measured ∙ and-false in_window)

-- where the shares add up and every entry of the window is c, the blended number is c × m!
blended-constant : (v : Multiplicities) (net : ℕ → ℕ) (entry : ℕ → ℕ → ℕ → ℤ) (k u : Axis → ℕ) (c : ℤ)
    → ((i1 i2 i3 : ℕ) → i1 < extent v a1 → i2 < extent v a2 → i3 < extent v a3
    → entry (k a1 - i1) (k a2 - i2) (k a3 - i3) ≡ c)
    → share_sum v net u ≡ factorial (degree v)
    → blended_correction v net entry k u ≡ c *ℤ pos (factorial (degree v))
unfolding blended_correction share_sum
blended-constant v net entry k u c h e =
    let E = extent v in
    let shares : ℕ → ℕ → ℕ → ℤ = λ i1 i2 i3. pos (share v net u i1 i2 i3) in
    sum_box_z-cong (E a1) (E a2) (E a3) _ (λ i1 i2 i3. shares i1 i2 i3 *ℤ c)
    (λ i1 i2 i3 l1 l2 l3. ap (λ (z : ℤ). shares i1 i2 i3 *ℤ z) (h i1 i2 i3 l1 l2 l3))
    ∙ sum_box_z-mulr (E a1) (E a2) (E a3) c shares
    ∙ ap (λ (z : ℤ). z *ℤ c) (sum_box_z-pos (E a1) (E a2) (E a3) (share v net u) ∙ ap pos e)
    ∙ *ℤ_comm (pos (factorial (degree v))) c

-- where every blended number is c × m!, N is c × m! × D^m, with D the sum of the weights
numerator-constant : (v : Multiplicities) (net : ℕ → ℕ) (entry : ℕ → ℕ → ℕ → ℤ) (q : Placing) (c : ℤ)
    → ((b0 b1 b2 b3 : ℕ) → b0 + b1 + b2 + b3 ≡ degree v
    → blended_correction v net entry (placing_cell q) (local_place q b1 b2 b3) ≡ c *ℤ pos (factorial (degree v)))
    → shift_numerator v net entry q ≡ c *ℤ pos (scale (degree v) (weight_sum q))
unfolding shift_numerator
numerator-constant v net entry q c h =
    let m = degree v in
    let whole = c *ℤ pos (factorial m) in
    let weight : ℕ → ℕ → ℕ → ℕ → ℤ
    = λ b0 b1 b2 b3. pos (bernstein m q.l0 q.l1 q.l2 q.l3 b0 b1 b2 b3) in
    sum_simplex_z-cong m _ (λ b0 b1 b2 b3. whole *ℤ weight b0 b1 b2 b3)
    (λ b0 b1 b2 b3 e. ap (λ (w : ℤ). w *ℤ weight b0 b1 b2 b3) (h b0 b1 b2 b3 e))
    ∙ bernstein-constant m q.l0 q.l1 q.l2 q.l3 whole
    ∙ *ℤ-assoc c (pos (factorial m)) (pos (weight_sum q ^ m))

-- the fraction c × m! × D^m over m! × D^m, with the uncertainty of the placing
abbrev constant_value : Multiplicities → Unit → List ℕ → List ℕ → ℤ → ℤ → ℤ → ℤ → ℕ → Result Fraction Refusal
constant_value v u net uncertainties c x y z D = Ok (record {
  numerator = c *ℤ pos (scale (degree v) D);
  uncertainty =
      uncertainty_numerator v (number_at net) (uncertainty_at (sizes u) uncertainties) (placing u x y z D);
  denominator = scale (degree v) D;
})

-- the claim for a net slice that holds the defined net of the unit's multiplicities
constant-held : (u : Unit) (net : List ℕ) (corrections : List ℤ) (uncertainties : List ℕ)
    → (x y z : ℤ) (D : ℕ) (c : ℤ)
    → HoldsDefined (net_of u) net → Constant (places (sizes u)) corrections c
    → lent_checks u (length net) (length corrections) (length uncertainties) ≡ no_refusal
    → position_checks u x y z D ≡ no_refusal
    → point_answer u net corrections uncertainties x y z D
    ≡ constant_value (net_of u) u net uncertainties c x y z D
constant-held u net corrections uncertainties x y z D c holds block passes inside =
    let v = net_of u in
    let q = placing u x y z D in
    let number = number_at net in
    let correction = correction_at (sizes u) corrections in
    let l = lent u (length net) (length corrections) (length uncertainties) passes in
    let p = limits-positive (net-limits u l.unit.net_held).limits in
    let placeable = point-accepted u x y z D inside in
    let f = fit u (length net) (length corrections) (length uncertainties) x y z D l placeable in
    let entry : (i1 i2 i3 : ℕ) → i1 < extent v a1 → i2 < extent v a2 → i3 < extent v a3
    → correction (q.k1 - i1) (q.k2 - i2) (q.k3 - i3) ≡ c
    = λ i1 i2 i3 l1 l2 l3.
    block.throughout _
    (entry_in u q (length net) (length corrections) (length uncertainties) f
    (q.k1 - i1) (q.k2 - i2) (q.k3 - i3) (omega arith) (omega arith) (omega arith)) in
    let N : shift_numerator v number correction q ≡ c *ℤ pos (scale (degree v) D)
    = numerator-constant v number correction q c
    (λ b0 b1 b2 b3 e.
    blended-constant v number correction (placing_cell q) (local_place q b1 b2 b3) c entry
    (window-shares v p net l.net_long holds (local_place q b1 b2 b3)
    (local-le q b1 b2 b3 (degree v) (omega arith))))
    ∙ ap (λ (d : ℕ). c *ℤ pos (scale (degree v) d)) (weights-add-up u x y z D placeable.divisor.some) in
    fraction u net corrections uncertainties x y z D passes inside
    (constant-measured v (sizes u) (placing_cell q) corrections c block)
    (adds-up v p net l.net_long holds q)
    ∙ ap
    (λ (w : ℤ).
    Ok (record {
      numerator = w;
      uncertainty = uncertainty_numerator v number (uncertainty_at (sizes u) uncertainties) q;
      denominator = scale (degree v) D;
    }))
    N

pub constant-block : ConstantBlock
constant-block v s made u alike net still corrections c block uncertainties passes x y z D inside =
    subst
    (λ (w : Multiplicities).
    point_answer u net corrections uncertainties x y z D ≡ constant_value w u net uncertainties c x y z D)
    alike
    (constant-held u net corrections uncertainties x y z D c
    (subst (λ (w : Multiplicities). HoldsDefined w net) (sym alike) (still ∙ holds_of made))
    block passes inside)

pub placed-constant-block : PlacedConstantBlock
placed-constant-block v s made u alike net still corrections c block uncertainties long x y z D q h =
    let p = placed u x y z D h in
    sym (two-calls u net corrections uncertainties x y z D h)
    ∙ constant-block v s made u alike net still corrections c block uncertainties
    (lent_is u net corrections uncertainties p.unit-passed ∙ long) x y z D p.position-passed
    ∙ ap (λ (t : Placing). Ok (record {
      numerator = c *ℤ pos (scale (degree v) D);
      uncertainty = uncertainty_numerator v (number_at net) (uncertainty_at (sizes u) uncertainties) t;
      denominator = scale (degree v) D;
    })) (sym p.is)

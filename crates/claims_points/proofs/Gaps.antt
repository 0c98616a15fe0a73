-- The uncertainty of a gap changes no point: with a gap in its window a point is refused, and with none each
-- uncertainty that counts is that of a measured entry.
use mathlib.Core.Bool.{Bool}
use mathlib.Core.List.{List}
use mathlib.Core.Path.{◌∙◌, ◌≡◌, ap, fun_ext, refl}
use Prim.Native.Nat.{◌*◌, ◌-◌, ◌<◌, ℕ}
use native.Mathlib.Omega.{arith}
use lib.IntN.{ℤ}
use lib.ListN.{length}
use Rattle.sums.proofs.Sum.{sum_box-cong}
use Rattle.sums.specs.Fill.{number_at, signed_at}
use Rattle.sums.specs.Simplex.{sum_simplex}
use Rattle.spline.specs.Box.{places}
use Rattle.spline.specs.Multiplicities.{Multiplicities, degree, extent}
use Rattle.spline.specs.Place.{Axis, a1, a2, a3}
use Rattle.checks.proofs.Checks.{at-passed, then-passed}
use Rattle.checks.specs.declared.Refusal.{Refusal}
use Rattle.unit.specs.Unit.{net_of, sizes}
use Rattle.unit.specs.declared.Unit.{Unit}
use Rattle.limits.proofs.Accepted.{lent}
use Rattle.divisor_checks.specs.Divisor.{divisor_checks, live_divisor_checks, live_scale_check, scale}
use Rattle.axis_order.specs.Weights.{placing_cell, weight_sum}
use Rattle.axis_order.specs.declared.Placing.{Placing}
use Rattle.placing.proofs.Placed.{point-accepted}
use Rattle.placing.specs.Place.{inside_check, position_checks}
use Rattle.placing.specs.Placing.{placing}
use Rattle.possible.proofs.FieldTests.{placed-accepted}
use Rattle.possible.specs.Possible.{live_placing_checks, placed_checks, placing_checks}
use Rattle.blending.proofs.Searches.{no_gap}
use Rattle.blending.proofs.Windows.{entry_in, inside_of}
use Rattle.answers.specs.Bernstein.{shift_numerator, term_weight, uncertainty_numerator}
use Rattle.answers.specs.Live.{live_answer, live_checks, live_value, live_valuing_answer, live_valuing_checks}
use Rattle.answers.specs.Point.{point_answer, point_checks, valuing_answer}
use Rattle.claims_points.proofs.Chains.{lent_slices, room, window}
use Rattle.claims_points.specs.Gaps.{DifferAtGaps, GapsUncounted}
use Rattle.blended.proofs.Answers.{fit, fit_at}
use Rattle.blended.specs.Blend.{blend_checks, correction_at, uncertainty_at, window_checks}
use Rattle.blended.specs.Blending.{blended_uncertainty, local_place, share}
use Rattle.blended.specs.Gaps.{first_gap}
use Rattle.blended.specs.Inner.Fit.{Fit}
use Rattle.checks.specs.Checks.{Checked, and_then, no_refusal, passed_or}
use Rattle.std.specs.Prelude.{Err, Ok, Result}
use Rattle.answers.specs.declared.Fraction.{Fraction}
use Rattle.checks.specs.declared.Refusal.TheVariants.{WindowGap}

-- what is made only after the checks have passed
passed-alike : {A : Type 0} (k : Checked) {a b : A} (kept : Refusal → A) → (k ≡ no_refusal → a ≡ b)
    → passed_or k a kept ≡ passed_or k b kept
passed-alike (Ok _) kept h = h refl
passed-alike (Err r) kept h = refl

-- equal entries of the window give equal blended numbers, and so an equal U
module _ (v : Multiplicities) (net : ℕ → ℕ) (entry₁ entry₂ : ℕ → ℕ → ℕ → ℕ) (q : Placing)
    (same : (i1 i2 i3 : ℕ) → i1 < extent v a1 → i2 < extent v a2 → i3 < extent v a3
    → entry₁ (q.k1 - i1) (q.k2 - i2) (q.k3 - i3) ≡ entry₂ (q.k1 - i1) (q.k2 - i2) (q.k3 - i3)) where
  blended-alike : (u : Axis → ℕ)
      → blended_uncertainty v net entry₁ (placing_cell q) u ≡ blended_uncertainty v net entry₂ (placing_cell q) u
  unfolding blended_uncertainty
  blended-alike u =
      sum_box-cong (extent v a1) (extent v a2) (extent v a3) _ _
      (λ i1 i2 i3 l1 l2 l3. ap (λ (n : ℕ). share v net u i1 i2 i3 * n) (same i1 i2 i3 l1 l2 l3))

  numerator-alike : uncertainty_numerator v net entry₁ q ≡ uncertainty_numerator v net entry₂ q
  unfolding uncertainty_numerator
  numerator-alike =
      ap (sum_simplex (degree v))
      (fun_ext (λ b0. fun_ext (λ b1. fun_ext (λ b2. fun_ext (λ b3.
      ap (λ (n : ℕ). n * term_weight (degree v) q b0 b1 b2 b3) (blended-alike (local_place q b1 b2 b3)))))))

-- ---- gaps that differ

module _ (u : Unit) (net : List ℕ) (corrections : List ℤ) (us₁ us₂ : List ℕ)
    (same : DifferAtGaps (places (sizes u)) corrections us₁ us₂) (q : Placing) where
  abbrev U : List ℕ → ℕ
  U us = uncertainty_numerator (net_of u) (number_at net) (uncertainty_at (sizes u) us) q

  -- where the window passes, none of its entries is a gap, and so U is the same
  uncertainty-alike : Fit u (length net) (length corrections) (length us₁) q
      → window u net corrections q ≡ no_refusal → U us₁ ≡ U us₂
  unfolding window_checks
  uncertainty-alike f passed =
      let gap = first_gap (net_of u) (sizes u) (correction_at (sizes u) corrections) (placing_cell q) in
      let none = (at-passed WindowGap gap _ passed).0 in
      numerator-alike (net_of u) (number_at net) (uncertainty_at (sizes u) us₁) (uncertainty_at (sizes u) us₂) q
      (λ i1 i2 i3 l1 l2 l3.
      same.measured _
      (entry_in u q (length net) (length corrections) (length us₁) f
      (q.k1 - i1) (q.k2 - i2) (q.k3 - i3) (omega arith) (omega arith) (omega arith))
      (no_gap u q (signed_at corrections) (inside_of u q (length net) (length corrections) (length us₁) f)
      none i1 i2 i3 l1 l2 l3))

  -- checks look at the length of the uncertainties alone, and what is made after them at U
  answer-alike : {A : Type 0} (checks : ℕ → Checked) (make : ℕ → A) (kept : Refusal → A)
      → (checks (length us₁) ≡ no_refusal
      → Fit u (length net) (length corrections) (length us₁) q × (window u net corrections q ≡ no_refusal))
      → passed_or (checks (length us₁)) (make (U us₁)) kept
      ≡ passed_or (checks (length us₂)) (make (U us₂)) kept
  answer-alike checks make kept passed =
      passed-alike (checks (length us₁)) kept
      (λ h. let p = passed h in ap make (uncertainty-alike p.0 p.1))
      ∙ ap (λ (k : ℕ). passed_or (checks k) (make (U us₂)) kept) same.lengths

-- ---- the four calls

module _ (u : Unit) (net : List ℕ) (corrections : List ℤ) (us₁ us₂ : List ℕ)
    (same : DifferAtGaps (places (sizes u)) corrections us₁ us₂) where
  abbrev lent_over : ℕ → Checked
  lent_over = lent_slices u net corrections

  abbrev room_over : ℕ → Checked
  room_over = room u net corrections

  abbrev N : Placing → ℤ
  N = shift_numerator (net_of u) (number_at net) (correction_at (sizes u) corrections)

  abbrev value : Placing → ℕ → ℕ → Result Fraction Refusal
  value q D n =
      Ok (record { numerator = N q; uncertainty = n; denominator = scale (degree (net_of u)) D })

  module _ (x y z : ℤ) (D : ℕ) where
    abbrev q : Placing
    q = placing u x y z D

    abbrev last : Checked
    last = window u net corrections q

    -- a point past its checks can be blended
    point-fits : lent_over (length us₁) ≡ no_refusal → position_checks u x y z D ≡ no_refusal
        → Fit u (length net) (length corrections) (length us₁) q
    point-fits l p =
        fit u (length net) (length corrections) (length us₁) x y z D
        (lent u (length net) (length corrections) (length us₁) l) (point-accepted u x y z D p)

    point-alike : point_answer u net corrections us₁ x y z D ≡ point_answer u net corrections us₂ x y z D
    unfolding point_answer point_checks
    point-alike =
        let position = position_checks u x y z D in
        answer-alike u net corrections us₁ us₂ same q (λ n. and_then (lent_over n) (and_then position last))
        (value q D) Err
        (λ h.
        let l = then-passed (lent_over (length us₁)) _ h in
        let p = then-passed position last l.1 in
        (point-fits l.0 p.0, p.1))

    live_alike : (flag : Bool)
        → live_answer u net corrections us₁ x y z D flag ≡ live_answer u net corrections us₂ x y z D flag
    unfolding live_answer live_checks live_divisor_checks position_checks
    live_alike flag =
        let divisor = and_then (divisor_checks (net_of u) D) (live_scale_check (net_of u) D) in
        let inside = inside_check u x y z D in
        answer-alike u net corrections us₁ us₂ same q
        (λ n. and_then (lent_over n) (and_then divisor (and_then inside last)))
        (λ (made : ℕ). Ok (live_value flag (N q) made)) Err
        (λ h.
        let l = then-passed (lent_over (length us₁)) _ h in
        let d = then-passed divisor _ l.1 in
        let i = then-passed inside last d.1 in
        let few = (then-passed (divisor_checks (net_of u) D) _ d.0).0 in
        (point-fits l.0 (rw few i.0), i.1))

  module _ (q : Placing) where
    abbrev last-at : Checked
    last-at = window u net corrections q

    -- so can a placing past its own
    placing-fits : placing_checks u q ≡ no_refusal → room_over (length us₁) ≡ no_refusal
        → Fit u (length net) (length corrections) (length us₁) q
    unfolding placed_checks
    placing-fits p r =
        let a = placed-accepted u q (length net) (length corrections) (length us₁) (rw p r) in
        fit_at u (length net) (length corrections) (length us₁) q a.1 a.0.possible.point_inside
        a.0.possible.axes

    value-alike : valuing_answer u net corrections us₁ q ≡ valuing_answer u net corrections us₂ q
    unfolding valuing_answer blend_checks placed_checks
    value-alike =
        answer-alike u net corrections us₁ us₂ same q
        (λ n. and_then (and_then (placing_checks u q) (room_over n)) last-at)
        (value q (weight_sum q)) Err
        (λ h.
        let w = then-passed (and_then (placing_checks u q) (room_over (length us₁))) last-at h in
        let p = then-passed (placing_checks u q) (room_over (length us₁)) w.0 in
        (placing-fits p.0 p.1, w.1))

    live-value-alike : (flag : Bool)
        → live_valuing_answer u net corrections us₁ q flag ≡ live_valuing_answer u net corrections us₂ q flag
    unfolding live_valuing_answer live_valuing_checks live_placing_checks
    live-value-alike flag =
        let start = and_then (placing_checks u q) (live_scale_check (net_of u) (weight_sum q)) in
        answer-alike u net corrections us₁ us₂ same q (λ n. and_then start (and_then (room_over n) last-at))
        (λ (made : ℕ). Ok (live_value flag (N q) made)) Err
        (λ h.
        let s = then-passed start _ h in
        let p = then-passed (placing_checks u q) _ s.0 in
        let r = then-passed (room_over (length us₁)) last-at s.1 in
        (placing-fits p.0 r.0, r.1))

pub gaps-uncounted : GapsUncounted
gaps-uncounted u net corrections us₁ us₂ flag same = (
  λ x y z D. (
    point-alike u net corrections us₁ us₂ same x y z D,
    live_alike u net corrections us₁ us₂ same x y z D flag,
  ),
  λ q. (
    value-alike u net corrections us₁ us₂ same q,
    live-value-alike u net corrections us₁ us₂ same q flag,
  ),
)

-- What the live call answers are N and U as floats; where 15 lets a point pass, these count without a gap.
use mathlib.Core.Bool.{Bool, false, not, true}
use mathlib.Core.List.{List}
use mathlib.Core.Path.{◌∙◌, ◌≡◌, ap, refl, subst, sym}
use Prim.Native.Nat.{◌≤◌, suc, ℕ}
use native.Mathlib.Omega.{arith}
use borrow.Author.Tests.{not-false}
use lib.Ieee.{Float, binary64, of_int, to_bits}
use lib.Ieee.Back.{round_whole}
use lib.Ieee.Exact.{HasValue}
use lib.IntN.{nat_abs, negsuc, pos, ℤ}
use lib.ListN.{length}
use Rattle.sums.specs.Fill.{number_at}
use Rattle.spline.specs.Box.{index}
use Rattle.spline.specs.Multiplicities.{degree}
use Rattle.checks.proofs.Checks.{at-passed, if-passed, then-passed}
use Rattle.unit.specs.Unit.{net_of, sizes}
use Rattle.unit.specs.declared.Unit.{Unit}
use Rattle.limits.proofs.Accepted.{unit-passed}
use Rattle.limits.specs.Limits.{lent_checks, unit_checks}
use Rattle.divisor_checks.proofs.Accepted.{live-accepted}
use Rattle.divisor_checks.specs.Divisor.{divisor_checks, live_limit, live_scale_check, scale}
use Rattle.axis_order.specs.Weights.{placing_cell, weight_sum}
use Rattle.axis_order.specs.declared.Placing.{Placing}
use Rattle.placing.specs.Place.{inside_check, place_answer, position_checks}
use Rattle.placing.specs.Placing.{placing}
use Rattle.possible.specs.Possible.{live_placing_checks, placed_checks, placing_checks}
use Rattle.floats.specs.Floats.{exact, float}
use Rattle.answers.proofs.InTurn.{in-turn}
use Rattle.answers.proofs.Point.{two-calls}
use Rattle.answers.specs.Live.{live_answer, live_value, live_valuing_answer, live_valuing_checks}
use Rattle.answers.specs.Point.{fraction_at, point_answer, valuing_answer}
use Rattle.answers.specs.declared.Fraction.{Fraction}
use Rattle.claims_points.proofs.Chains.{lent_slices, room, window}
use Rattle.claims_points.proofs.Live.{live, live-is, live-passes}
use Rattle.claims_points.proofs.NumeratorSizes.{numerator-size, uncertainty-size}
use Rattle.claims_points.specs.Live.{Agrees, HasFloats, IsExactly, IsFloatOf, LiveExact, LiveWhole}
use Rattle.claims_points.specs.Live.{SixteenBits, negative}
use Rattle.blended.specs.Blend.{blend_checks, correction_at, uncertainty_at, window_checks}
use Rattle.blended.specs.Blending.{adds_up}
use Rattle.blended.specs.Gaps.{first_gap}
use Rattle.checks.specs.Checks.{Checked, and_then, no_refusal, refuse_if}
use Rattle.std.specs.Prelude.{Err, Ok}
use Rattle.checks.specs.declared.Refusal.TheVariants.{UnevenShares, WindowGap}

-- ---- floats

zero_bits : to_bits binary64 (float (pos 0)) ≡ 0
unfolding of_int to_bits
zero_bits = refl

value_of : (z : ℤ) → nat_abs z ≤ exact → HasValue (float z) (negative z) (nat_abs z) 1
unfolding of_int
value_of (pos n) h = round_whole binary64 false n h
value_of (negsuc n) h = round_whole binary64 true (suc n) h

-- a whole number as a float
float_of : (z : ℤ) → IsFloatOf (float z) z
float_of z = record { bits = refl; zero = λ e. ap (λ (z : ℤ). to_bits binary64 (float z)) e ∙ zero_bits }

-- ---- N and U at a placing

module _ (u : Unit) (net : List ℕ) (corrections : List ℤ) (uncertainties : List ℕ) (q : Placing) where
  abbrev f : Fraction
  f = fraction_at u net corrections uncertainties q (weight_sum q)

  -- what the live valuing call lets pass has passed the window, and 15
  live-passed : live_valuing_checks u net corrections uncertainties q ≡ no_refusal
      → (blend_checks u net corrections uncertainties q ≡ no_refusal)
      × (window u net corrections q ≡ no_refusal)
      × (live_scale_check (net_of u) (weight_sum q) ≡ no_refusal)
  unfolding live_valuing_checks live_placing_checks blend_checks placed_checks
  live-passed h =
      let slices = room u net corrections (length uncertainties) in
      let a = then-passed (and_then (placing_checks u q) (live_scale_check (net_of u) (weight_sum q))) _ h in
      let b = then-passed (placing_checks u q) (live_scale_check (net_of u) (weight_sum q)) a.0 in
      let c = then-passed slices (window u net corrections q) a.1 in
      (rw (b.0, c.0) c.1, c.1, b.1)

  module _ (passed : window u net corrections q ≡ no_refusal)
      (within : scale (degree (net_of u)) (weight_sum q) ≤ live_limit)
      (lent : SixteenBits corrections uncertainties) where
    even : adds_up (net_of u) (number_at net) q ≡ true
    unfolding window_checks
    even =
        let sums = refuse_if UnevenShares (not (adds_up (net_of u) (number_at net) q)) no_refusal in
        let gap = first_gap (net_of u) (sizes u) (correction_at (sizes u) corrections) (placing_cell q) in
        not-false _ (if-passed UnevenShares _ _ (at-passed WindowGap gap sums passed).1).0

    numerator-small : nat_abs f.numerator ≤ exact
    numerator-small =
        let size = numerator-size (net_of u) (number_at net) q even 65535 (correction_at (sizes u) corrections)
        (λ j1 j2 j3. omega (arith, lent.of_corrections (index (sizes u) j1 j2 j3))) in
        omega (arith, size, within)

    uncertainty-small : f.uncertainty ≤ exact
    uncertainty-small =
        let size = uncertainty-size (net_of u) (number_at net) q even 65535
        (uncertainty_at (sizes u) uncertainties)
        (λ j1 j2 j3. omega (arith, lent.of_uncertainties (index (sizes u) j1 j2 j3))) in
        omega (arith, size, within)

    -- so their floats have exactly their values
    values-are : (flag : Bool) → HasFloats IsExactly flag f (Ok (live_value flag f.numerator f.uncertainty))
    values-are true = (value_of _ numerator-small, value_of (pos _) uncertainty-small)
    values-are false = value_of _ numerator-small

-- their bits are those of N and U as floats whatever these are
bits_are : (flag : Bool) (f : Fraction)
    → HasFloats IsFloatOf flag f (Ok (live_value flag f.numerator f.uncertainty))
bits_are true f = (float_of f.numerator, float_of (pos f.uncertainty))
bits_are false f = float_of f.numerator

-- ---- the calls

-- a point that meets none of 21, 22, 10, 11, 12 is placed
placed-here : (u : Unit) (x y z : ℤ) (D : ℕ) → unit_checks u ≡ no_refusal → divisor_checks (net_of u) D ≡ no_refusal
    → inside_check u x y z D ≡ no_refusal → place_answer u x y z D ≡ Ok (placing u x y z D)
unfolding place_answer position_checks
placed-here u x y z D unit divisor inside = rw (unit, divisor, inside) refl

-- past the unit, what is lent is looked at for room
room-left : (u : Unit) (net : List ℕ) (corrections : List ℤ) (uncertainties : List ℕ) → unit_checks u ≡ no_refusal
    → lent_slices u net corrections (length uncertainties) ≡ no_refusal
    → room u net corrections (length uncertainties) ≡ no_refusal
unfolding lent_checks
room-left u net corrections uncertainties unit h = rw unit at h

module _ (u : Unit) (net : List ℕ) (corrections : List ℤ) (uncertainties : List ℕ) (flag : Bool)
    (P : Float → ℤ → Type 0) where
  abbrev AgreesAt : Placing → Type 0
  AgreesAt q =
      Agrees P flag (valuing_answer u net corrections uncertainties q)
      (live_valuing_answer u net corrections uncertainties q flag)

  -- a placing whose answer is no refusal has passed all checks
  agrees_at : (q : Placing)
      → (window u net corrections q ≡ no_refusal → live_scale_check (net_of u) (weight_sum q) ≡ no_refusal
      → (let N = fraction_at u net corrections uncertainties q (weight_sum q) in
      HasFloats P flag N (Ok (live_value flag N.numerator N.uncertainty))))
      → AgreesAt q
  unfolding valuing_answer live_valuing_answer
  agrees_at q held answered = go (live_valuing_checks u net corrections uncertainties q) refl
    where
      go : (k : Checked) → live_valuing_checks u net corrections uncertainties q ≡ k
          → (f : Fraction) × (valuing_answer u net corrections uncertainties q ≡ Ok f)
          × HasFloats P flag f (live_valuing_answer u net corrections uncertainties q flag)
      go (Err r) e = absurd (answered r (rw e refl))
      go (Ok _) e =
          let p = live-passed u net corrections uncertainties q e in
          let f = fraction_at u net corrections uncertainties q (weight_sum q) in
          (f, rw p.0 refl, rw e (held p.1 p.2))

  -- a point is answered as its placing is
  agrees-point : (x y z : ℤ) (D : ℕ) → ((q : Placing) → AgreesAt q)
      → Agrees P flag (point_answer u net corrections uncertainties x y z D)
      (live_answer u net corrections uncertainties x y z D flag)
  agrees-point x y z D at answered = go (live u net corrections uncertainties x y z D) refl
    where
      go : (k : Checked) → live u net corrections uncertainties x y z D ≡ k
          → (f : Fraction)
          × (point_answer u net corrections uncertainties x y z D ≡ Ok f)
          × HasFloats P flag f (live_answer u net corrections uncertainties x y z D flag)
      go (Err r) e =
          absurd (answered r (live-is u net corrections uncertainties x y z D flag ∙ rw e refl))
      go (Ok _) e =
          let p = live-passes u net corrections uncertainties x y z D e in
          let unit = unit-passed u _ _ _ p.lent-passed in
          let here = placed-here u x y z D unit p.divisor-passed p.inside-passed in
          let slices = room-left u net corrections uncertainties unit p.lent-passed in
          let whole = in-turn u net corrections uncertainties flag x y z D slices here in
          let a = at (placing u x y z D) (λ r h. answered r (whole ∙ h)) in (
            a.0,
            two-calls u net corrections uncertainties x y z D here ∙ a.1,
            subst (HasFloats P flag a.0) (sym whole) a.2,
          )

pub live-exact : LiveExact
live-exact u net corrections uncertainties flag =
    let at : (q : Placing) → AgreesAt u net corrections uncertainties flag IsFloatOf q
    = λ q.
    agrees_at u net corrections uncertainties flag IsFloatOf q
    (λ passed fifteen. bits_are flag (fraction_at u net corrections uncertainties q (weight_sum q))) in
    (λ x y z D. agrees-point u net corrections uncertainties flag IsFloatOf x y z D at, at)

pub live-whole : LiveWhole
live-whole u net corrections uncertainties flag lent =
    let at : (q : Placing) → AgreesAt u net corrections uncertainties flag IsExactly q
    = λ q.
    agrees_at u net corrections uncertainties flag IsExactly q
    (λ passed fifteen.
    values-are u net corrections uncertainties q passed (live-accepted (net_of u) (weight_sum q) fifteen) lent
    flag) in
    (λ x y z D. agrees-point u net corrections uncertainties flag IsExactly x y z D at, at)

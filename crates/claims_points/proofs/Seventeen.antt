-- 17 refuses exactly the placings that the placing call never gives: it gives those that are possible, and no
-- other check refuses by 17.
use mathlib.Core.Bool.{Bool, ◌||◌, false, not, true}
use mathlib.Core.List.{List}
use mathlib.Core.Logic.{◌↔◌}
use mathlib.Core.Path.{◌≡◌, refl}
use Prim.Native.Nat.{ℕ}
use native.Mathlib.Omega.{arith}
use lib.Dec.{ltb}
use lib.IntN.{ℤ}
use lib.ListN.{length}
use Rattle.sums.specs.Fill.{number_at}
use Rattle.spline.specs.Box.{places, width}
use Rattle.spline.specs.Multiplicities.{degree}
use Rattle.unit.specs.Unit.{net_of, sizes}
use Rattle.unit.specs.declared.Unit.{Unit}
use Rattle.limits.specs.Limits.{room_checks}
use Rattle.divisor_checks.specs.Divisor.{live_limit, live_scale_check, scale}
use Rattle.axis_order.specs.Weights.{placing_cell, weight_sum}
use Rattle.axis_order.specs.declared.Placing.{Placing}
use Rattle.possible.specs.Possible.{live_placing_checks, placed_checks, placing_checks, possible}
use Rattle.answers.specs.Live.{live_valuing_answer, live_valuing_checks}
use Rattle.answers.specs.Point.{valuing_answer}
use Rattle.chains.proofs.Stopped.{Never, at-never, if-never, passed-never, placeless, then-first, then_never}
use Rattle.claims_placings.proofs.Given.{impossible-stopped, possible-given, stopped-never}
use Rattle.claims_placings.specs.Given.{GivenAt}
use Rattle.claims_points.proofs.Chains.{room, window}
use Rattle.claims_points.specs.Placings.{Given, Seventeen}
use Rattle.blended.specs.Blend.{blend_checks, correction_at, window_checks}
use Rattle.blended.specs.Blending.{adds_up}
use Rattle.blended.specs.Gaps.{first_gap}
use Rattle.checks.specs.Checks.{Checked, and_then, no_refusal}
use Rattle.std.specs.Prelude.{Err}
use Rattle.checks.specs.declared.Refusal.TheVariants.{BlockRoom, ImpossiblePlacing, LargeLiveScale, NetRoom}
use Rattle.checks.specs.declared.Refusal.TheVariants.{UnevenShares, WindowGap}
use Rattle.checks.specs.declared.Refusal.{Refusal}
use Rattle.checks.proofs.Checks.{refused-by}

-- ---- no other check

abbrev impossible : ℕ → Refusal
impossible = placeless ImpossiblePlacing

room-never : (u : Unit) (net_length corrections_length uncertainties_length : ℕ)
    → Never impossible (room_checks u net_length corrections_length uncertainties_length)
room-never u net_length corrections_length uncertainties_length =
    let n = places (sizes u) in
    if-never NetRoom impossible (ltb net_length (places (width (net_of u)))) _ (λ _ e. omega arith)
    (if-never BlockRoom impossible (ltb corrections_length n || ltb uncertainties_length n) no_refusal (λ _ e. omega arith)
    (passed-never impossible))

fifteen-never : (u : Unit) (D : ℕ) → Never impossible (live_scale_check (net_of u) D)
unfolding live_scale_check
fifteen-never u D =
    if-never LargeLiveScale impossible (ltb live_limit (scale (degree (net_of u)) D)) no_refusal
    (λ _ e. omega arith) (passed-never impossible)

-- ---- the answers

module _ (u : Unit) (net : List ℕ) (corrections : List ℤ) (uncertainties : List ℕ) (q : Placing) where
  abbrev slices : Checked
  slices = room u net corrections (length uncertainties)

  abbrev last : Checked
  last = window u net corrections q

  window-never : Never impossible last
  unfolding window_checks
  window-never =
      at-never WindowGap impossible (first_gap (net_of u) (sizes u) (correction_at (sizes u) corrections) (placing_cell q)) _
      (λ _ _ e. omega arith)
      (if-never UnevenShares impossible (not (adds_up (net_of u) (number_at net) q)) no_refusal
      (λ _ e. omega arith) (passed-never impossible))

  -- the valuing call refuses by 17 exactly where the placing is stopped so
  pub valuing-stopped : (valuing_answer u net corrections uncertainties q ≡ Err ImpossiblePlacing)
      ↔ (placing_checks u q ≡ Err ImpossiblePlacing)
  unfolding valuing_answer blend_checks placed_checks
  valuing-stopped = (
    λ h.
        let k = refused-by (blend_checks u net corrections uncertainties q) _ h in
        then-first impossible 0 (placing_checks u q) slices
        (room-never u (length net) (length corrections) (length uncertainties))
        (then-first impossible 0 (and_then (placing_checks u q) slices) last window-never k),
    λ h. rw h refl,
  )

  -- and so does the live one
  pub live-valuing-stopped : (flag : Bool)
      → (live_valuing_answer u net corrections uncertainties q flag ≡ Err ImpossiblePlacing)
      ↔ (placing_checks u q ≡ Err ImpossiblePlacing)
  unfolding live_valuing_answer live_valuing_checks live_placing_checks
  live-valuing-stopped flag = (
    λ h.
        let fifteen = live_scale_check (net_of u) (weight_sum q) in
        let k = refused-by (live_valuing_checks u net corrections uncertainties q) _ h in
        let rest =
        then_never impossible slices last
        (room-never u (length net) (length corrections) (length uncertainties)) window-never in
        then-first impossible 0 (placing_checks u q) fifteen (fifteen-never u (weight_sum q))
        (then-first impossible 0 (and_then (placing_checks u q) fifteen) (and_then slices last) rest k),
    λ h. rw h refl,
  )

-- ---- the demands

pub seventeen : Seventeen
seventeen u net corrections uncertainties q flag =
    let v = valuing-stopped u net corrections uncertainties q in
    let l = live-valuing-stopped u net corrections uncertainties q flag in
    let n = stopped-never u q in
    ((λ h. n.0 (v.0 h), λ h. v.1 (n.1 h)), (λ h. n.0 (l.0 h), λ h. l.1 (n.1 h)))

pub given : Given
given u net corrections uncertainties q e origin other = go (possible u q) refl
  where
    go : (b : Bool) → possible u q ≡ b → GivenAt u q
    go true h = possible-given u q e origin h
    go false h =
        absurd (other ((valuing-stopped u net corrections uncertainties q).1 (impossible-stopped u q e h)))

-- The numbers by which the checks of points and placings refuse, in their order.
use mathlib.Core.Bool.{◌&&◌, ◌||◌, not}
use mathlib.Core.List.{List, [], ◌++◌, ◌∷◌}
use mathlib.Core.Path.{refl}
use Prim.Native.Nat.{ℕ}
use lib.Dec.{eqb, ltb}
use lib.IntN.{ℤ}
use lib.ListN.{length}
use lib.Signed.{non_neg}
use Rattle.sums.specs.Fill.{number_at}
use Rattle.spline.specs.Box.{places, width}
use Rattle.spline.specs.Multiplicities.{degree}
use Rattle.spline.specs.Place.{Axis}
use Rattle.unit.specs.Unit.{holds_block, holds_net, net_of, sizes}
use Rattle.unit.specs.declared.Unit.{Unit}
use Rattle.limits.specs.Limits.{lent_checks, room_checks, unit_checks}
use Rattle.divisor_checks.specs.Divisor.{divisor_checks, limit, live_divisor_checks, live_limit}
use Rattle.divisor_checks.specs.Divisor.{live_scale_check}
use Rattle.divisor_checks.specs.Divisor.{scale}
use Rattle.coordinates.specs.Coordinates.{from_origin, sign_check}
use Rattle.cell_checks.specs.Inside.{cell_check, inside}
use Rattle.axis_order.specs.Weights.{placing_cell, weight_sum}
use Rattle.axis_order.specs.declared.Placing.{Placing}
use Rattle.placing.specs.Place.{inside_check, position_checks}
use Rattle.placing.specs.Placing.{cells, placing}
use Rattle.possible.specs.Possible.{live_placing_checks, placed_checks, placing_checks, possible}
use Rattle.answers.specs.Live.{live_checks, live_valuing_checks}
use Rattle.answers.specs.Point.{point_checks}
use Rattle.in_turn.specs.Early.{early_checks}
use Rattle.claims_points.proofs.Chains.{lent_slices, room, window}
use Rattle.claims_calls.proofs.FileNumbers.{block-room-numbered}
use Rattle.claims_calls.proofs.Numbered.{Numbered, at-numbered, if-numbered, then-numbered}
use Rattle.blended.specs.Blend.{blend_checks, correction_at, window_checks}
use Rattle.blended.specs.Blending.{adds_up}
use Rattle.blended.specs.Gaps.{first_gap}
use Rattle.checks.specs.Checks.{Checked, and_then, no_refusal, passed_or}
use Rattle.std.specs.Prelude.{Err, Ok}
use Rattle.checks.specs.declared.Refusal.TheVariants.{BadDivisor, ImpossiblePlacing, LargeLiveScale}
use Rattle.checks.specs.declared.Refusal.TheVariants.{LargeScale, NetRoom, NoBlock, NoNet, Outside}
use Rattle.checks.specs.declared.Refusal.TheVariants.{UnevenShares, WindowGap}

abbrev pub of_unit : List ℕ
of_unit = 21 ∷ 22 ∷ []

abbrev pub of_lent : List ℕ
of_lent = of_unit ++ 4 ∷ 9 ∷ []

abbrev pub of_divisor : List ℕ
of_divisor = 10 ∷ 11 ∷ []

abbrev pub of_cell : List ℕ
of_cell = 12 ∷ 12 ∷ []

abbrev pub of_placing : List ℕ
of_placing = of_unit ++ 17 ∷ []

abbrev pub of_window : List ℕ
of_window = 13 ∷ 23 ∷ []

pub signs-numbered : (x y z : ℤ) → Numbered (12 ∷ []) (sign_check x y z)
unfolding sign_check
signs-numbered x y z = if-numbered Outside (not (non_neg x && non_neg y && non_neg z)) no_refusal [] tt

module _ (u : Unit) where
  pub unit-numbered : Numbered of_unit (unit_checks u)
  unfolding unit_checks
  unit-numbered =
      if-numbered NoNet (not (holds_net u)) _ (22 ∷ []) (if-numbered NoBlock (not (holds_block u)) no_refusal [] tt)

  pub room-numbered : (net_length corrections_length uncertainties_length : ℕ)
      → Numbered (4 ∷ 9 ∷ []) (room_checks u net_length corrections_length uncertainties_length)
  room-numbered net_length corrections_length uncertainties_length =
      if-numbered NetRoom (ltb net_length (places (width (net_of u)))) _ (9 ∷ [])
      (block-room-numbered (places (sizes u)) corrections_length uncertainties_length)

  pub lent-numbered : (net_length corrections_length uncertainties_length : ℕ)
      → Numbered of_lent (lent_checks u net_length corrections_length uncertainties_length)
  unfolding lent_checks
  lent-numbered net_length corrections_length uncertainties_length =
      then-numbered of_unit (4 ∷ 9 ∷ []) (unit_checks u) _ unit-numbered
      (room-numbered net_length corrections_length uncertainties_length)

  pub divisor-numbered : (D : ℕ) → Numbered of_divisor (divisor_checks (net_of u) D)
  unfolding divisor_checks
  divisor-numbered D =
      if-numbered BadDivisor (eqb D 0 || ltb 4096 D) _ (11 ∷ [])
      (if-numbered LargeScale (ltb limit (scale (degree (net_of u)) D)) no_refusal [] tt)

  scale-numbered : (D : ℕ) → Numbered (15 ∷ []) (live_scale_check (net_of u) D)
  unfolding live_scale_check
  scale-numbered D = if-numbered LargeLiveScale (ltb live_limit (scale (degree (net_of u)) D)) no_refusal [] tt

  pub live-divisor-numbered : (D : ℕ) → Numbered (of_divisor ++ 15 ∷ []) (live_divisor_checks (net_of u) D)
  unfolding live_divisor_checks
  live-divisor-numbered D =
      then-numbered of_divisor (15 ∷ []) (divisor_checks (net_of u) D) (live_scale_check (net_of u) D)
      (divisor-numbered D) (scale-numbered D)

  pub cell-numbered : (k : Axis → ℕ) → Numbered (12 ∷ []) (cell_check (net_of u) (sizes u) k)
  unfolding cell_check
  cell-numbered k = if-numbered Outside (not (inside (net_of u) (sizes u) k)) no_refusal [] tt

  inside-numbered : (x y z : ℤ) (D : ℕ) → Numbered of_cell (inside_check u x y z D)
  unfolding inside_check
  inside-numbered x y z D =
      let a = from_origin x u.o1 D in
      let b = from_origin y u.o2 D in
      let c = from_origin z u.o3 D in
      then-numbered (12 ∷ []) (12 ∷ []) (sign_check a b c) (cell_check (net_of u) (sizes u) (cells u x y z D))
      (signs-numbered a b c) (cell-numbered (cells u x y z D))

  position-numbered : (x y z : ℤ) (D : ℕ) → Numbered (of_divisor ++ of_cell) (position_checks u x y z D)
  unfolding position_checks
  position-numbered x y z D =
      then-numbered of_divisor of_cell (divisor_checks (net_of u) D) _ (divisor-numbered D)
      (inside-numbered x y z D)

  pub place-numbered : (x y z : ℤ) (D : ℕ)
      → Numbered (of_unit ++ of_divisor ++ of_cell) (and_then (unit_checks u) (position_checks u x y z D))
  place-numbered x y z D =
      then-numbered of_unit (of_divisor ++ of_cell) (unit_checks u) (position_checks u x y z D) unit-numbered
      (position-numbered x y z D)

  placing-numbered : (q : Placing) → Numbered of_placing (placing_checks u q)
  unfolding placing_checks
  placing-numbered q =
      then-numbered of_unit (17 ∷ []) (unit_checks u) _ unit-numbered
      (if-numbered ImpossiblePlacing (not (possible u q)) no_refusal [] tt)

  pub live-placing-numbered : (q : Placing)
      → Numbered (of_placing ++ 15 ∷ []) (live_placing_checks u q)
  unfolding live_placing_checks
  live-placing-numbered q =
      then-numbered of_placing (15 ∷ []) (placing_checks u q) (live_scale_check (net_of u) (weight_sum q))
      (placing-numbered q) (scale-numbered (weight_sum q))

  early-by : (q : Placing) (k : Checked)
      → Numbered (of_placing ++ 15 ∷ []) (passed_or k no_refusal (λ r. live_placing_checks u q))
  early-by q (Ok _) = tt
  early-by q (Err r) = live-placing-numbered q

  pub early-numbered : (q : Placing) → Numbered (of_placing ++ 15 ∷ []) (early_checks u q)
  unfolding early_checks
  early-numbered q = early-by q (live_divisor_checks (net_of u) (weight_sum q))

  pub placed-numbered : (q : Placing) (net_length corrections_length uncertainties_length : ℕ)
      → Numbered (of_placing ++ 4 ∷ 9 ∷ [])
      (placed_checks u q net_length corrections_length uncertainties_length)
  unfolding placed_checks
  placed-numbered q net_length corrections_length uncertainties_length =
      then-numbered of_placing (4 ∷ 9 ∷ []) (placing_checks u q) _ (placing-numbered q)
      (room-numbered net_length corrections_length uncertainties_length)

module _ (u : Unit) (net : List ℕ) (corrections : List ℤ) (uncertainties : List ℕ) where
  abbrev last : Placing → Checked
  last = window u net corrections

  window-numbered : (q : Placing) → Numbered of_window (last q)
  unfolding window_checks
  window-numbered q =
      at-numbered WindowGap (first_gap (net_of u) (sizes u) (correction_at (sizes u) corrections) (placing_cell q)) _
      (23 ∷ []) (λ _. refl)
      (if-numbered UnevenShares (not (adds_up (net_of u) (number_at net) q)) no_refusal [] tt)

  abbrev lent : Checked
  lent = lent_slices u net corrections (length uncertainties)

  lent-here : Numbered of_lent lent
  lent-here = lent-numbered u (length net) (length corrections) (length uncertainties)

  pub point-numbered : (x y z : ℤ) (D : ℕ)
      → Numbered (of_lent ++ (of_divisor ++ of_cell) ++ of_window)
      (point_checks u net corrections uncertainties x y z D)
  unfolding point_checks
  point-numbered x y z D =
      let q = placing u x y z D in
      let position = position_checks u x y z D in
      then-numbered of_lent ((of_divisor ++ of_cell) ++ of_window) lent (and_then position (last q))
      lent-here
      (then-numbered (of_divisor ++ of_cell) of_window position (last q) (position-numbered u x y z D)
      (window-numbered q))

  pub live-numbered : (x y z : ℤ) (D : ℕ)
      → Numbered (of_lent ++ (of_divisor ++ 15 ∷ []) ++ of_cell ++ of_window)
      (live_checks u net corrections uncertainties x y z D)
  unfolding live_checks
  live-numbered x y z D =
      let q = placing u x y z D in
      let divisor = live_divisor_checks (net_of u) D in
      let inner = and_then (inside_check u x y z D) (last q) in
      then-numbered of_lent ((of_divisor ++ 15 ∷ []) ++ of_cell ++ of_window) lent
      (and_then divisor inner) lent-here
      (then-numbered (of_divisor ++ 15 ∷ []) (of_cell ++ of_window) divisor inner (live-divisor-numbered u D)
      (then-numbered of_cell of_window (inside_check u x y z D) (last q) (inside-numbered u x y z D)
      (window-numbered q)))

  module _ (q : Placing) where
    pub blend-numbered : Numbered ((of_placing ++ 4 ∷ 9 ∷ []) ++ of_window)
        (blend_checks u net corrections uncertainties q)
    unfolding blend_checks
    blend-numbered =
        then-numbered (of_placing ++ 4 ∷ 9 ∷ []) of_window
        (placed_checks u q (length net) (length corrections) (length uncertainties)) (last q)
        (placed-numbered u q (length net) (length corrections) (length uncertainties)) (window-numbered q)

    pub live-value-numbered : Numbered ((of_placing ++ 15 ∷ []) ++ 4 ∷ 9 ∷ 13 ∷ 23 ∷ [])
        (live_valuing_checks u net corrections uncertainties q)
    unfolding live_valuing_checks
    live-value-numbered =
        then-numbered (of_placing ++ 15 ∷ []) ((4 ∷ 9 ∷ []) ++ of_window) (live_placing_checks u q)
        (and_then (room u net corrections (length uncertainties)) (last q)) (live-placing-numbered u q)
        (then-numbered (4 ∷ 9 ∷ []) of_window (room u net corrections (length uncertainties)) (last q)
        (room-numbered u (length net) (length corrections) (length uncertainties)) (window-numbered q))

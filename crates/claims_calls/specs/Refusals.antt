-- Refusals: which numbers calls answer, and what a refused call leaves. Section 14.1.
use Rattle.std.specs.Prelude.{Option, Bool, Err, List, [], eqb, false, length, not, true, ℕ, ℤ, ◌||◌, ◌∷◌}
use Rattle.std.specs.Prelude.{◌≡◌}
use Rattle.spline.specs.Box.{places, width}
use Rattle.spline.specs.Multiplicities.{Multiplicities, allowed}
use Rattle.spline.specs.Place.{on_axes}
use Rattle.checks.specs.declared.Refusal.{Refusal}
use Rattle.unit.specs.Unit.{net_of, sizes}
use Rattle.unit.specs.declared.Unit.{Unit}
use Rattle.shape.specs.declared.Shape.{Shape}
use Rattle.orders.specs.Order.{build_checks}
use Rattle.builds.specs.Build.{build_answer, build_net, BuildWork}
use Rattle.inspection_checks.specs.Room.{shorter}
use Rattle.comparison.specs.Compare.{comparison}
use Rattle.inspection.specs.Inspect.{inspect_answer}
use Rattle.factory.specs.Factory.{factory_answer}
use Rattle.entry_checks.specs.Entry.{gap_at, limit_at}
use Rattle.file_checks.specs.FileChecks.{file_checks}
use Rattle.limits.specs.Limits.{block_room_check, lent_checks, room_checks, unit_checks}
use Rattle.field.specs.Load.{load_answer, load_corrections, load_uncertainties}
use Rattle.divisor_checks.specs.Divisor.{divisor_checks, live_divisor_checks}
use Rattle.coordinates.specs.Coordinates.{sign_check}
use Rattle.cell_checks.specs.Inside.{cell_check}
use Rattle.axis_order.specs.declared.Placing.{Placing}
use Rattle.placing.specs.Place.{place_answer}
use Rattle.possible.specs.Possible.{live_placing_checks, placed_checks}
use Rattle.window.specs.Window.{found_of}
use Rattle.blended.specs.Blend.{blend_checks}
use Rattle.answers.specs.Live.{live_answer, live_valuing_answer}
use Rattle.answers.specs.Point.{point_answer, valuing_answer}
use Rattle.in_turn.specs.Early.{early_checks}
use Rattle.checks.specs.Checks.{no_refusal, number_of, place_of, refuse_at, refuse_if}
use Rattle.checks.specs.declared.Refusal.TheVariants.{BadMultiplicities, NetRoom, WindowGap}

-- ---- calls

-- Section 14.1: a call on some unit, with all else that it is handed; and, behind them, the checks that one
-- part of the library asks of another
pub data Call : Type 0 where
  build : (order : List ℕ) (net_length work_length : ℕ) → Call
  copy : (net_length : ℕ) → Call
  inspect : (v : Multiplicities) (net : List ℕ) (defined_length work_length : ℕ) → Call
  load : (file : List ℕ) (corrections : List ℤ) (uncertainties : List ℕ) → Call
  place : (x y z : ℤ) (D : ℕ) → Call
  point : (net : List ℕ) (corrections : List ℤ) (uncertainties : List ℕ) (x y z : ℤ) (D : ℕ) → Call
  live : (net : List ℕ) (corrections : List ℤ) (uncertainties : List ℕ) (x y z : ℤ) (D : ℕ) (flag : Bool)
      → Call
  value : (net : List ℕ) (corrections : List ℤ) (uncertainties : List ℕ) (q : Placing) → Call
  live_valuing : (net : List ℕ) (corrections : List ℤ) (uncertainties : List ℕ) (q : Placing) (flag : Bool)
      → Call
  blend : (net : List ℕ) (corrections : List ℤ) (uncertainties : List ℕ) (q : Placing) → Call
  check_build : (order : List ℕ) (net_length work_length : ℕ) → Call
  check_given : (v : Multiplicities) (net_length defined_length work_length : ℕ) → Call
  compare : (s : Shape) (net defined : List ℕ) → Call
  check_unit : Call
  check_room : (net_length corrections_length uncertainties_length : ℕ) → Call
  check_lent : (net_length corrections_length uncertainties_length : ℕ) → Call
  check_divisor : (D : ℕ) → Call
  check_live_divisor : (D : ℕ) → Call
  check_signs : (x y z : ℤ) → Call
  check_cell : (k1 k2 k3 : ℕ) → Call
  check_placed : (q : Placing) (net_length corrections_length uncertainties_length : ℕ) → Call
  check_live_placing : (q : Placing) → Call
  check_early : (q : Placing) → Call
  check_window : (gap : Option ℕ) → Call
  check_block_room : (n corrections_length uncertainties_length : ℕ) → Call
  check_file : (file : List ℕ) → Call
  check_limit : (i uncertainty : ℕ) → Call
  check_gap : (i : ℕ) (correction : ℤ) (uncertainty : ℕ) → Call

-- Section 14.1: the call on the unit u answers the refusal r
abbrev pub Refuses : Unit → Call → Refusal → Type 0
Refuses u (build order net work) r = build_answer u order net work ≡ Err r
Refuses u (copy net) r = factory_answer u net ≡ Err r
Refuses u (inspect v net defined work) r = inspect_answer u v net defined work ≡ Err r
Refuses u (load file cs us) r = load_answer u file cs us ≡ Err r
Refuses u (place x y z D) r = place_answer u x y z D ≡ Err r
Refuses u (point net cs us x y z D) r = point_answer u net cs us x y z D ≡ Err r
Refuses u (live net cs us x y z D flag) r = live_answer u net cs us x y z D flag ≡ Err r
Refuses u (value net cs us q) r = valuing_answer u net cs us q ≡ Err r
Refuses u (live_valuing net cs us q flag) r = live_valuing_answer u net cs us q flag ≡ Err r
Refuses u (blend net cs us q) r = blend_checks u net cs us q ≡ Err r
Refuses u (check_build order net work) r = build_checks order net work ≡ Err r
Refuses u (check_given v net defined work) r =
    refuse_if BadMultiplicities (not (allowed v))
    (refuse_if NetRoom (shorter net defined work (places (width v))) no_refusal)
    ≡ Err r
Refuses u (compare s net defined) r = comparison s net defined ≡ Err r
Refuses u check_unit r = unit_checks u ≡ Err r
Refuses u (check_room net cs us) r = room_checks u net cs us ≡ Err r
Refuses u (check_lent net cs us) r = lent_checks u net cs us ≡ Err r
Refuses u (check_divisor D) r = divisor_checks (net_of u) D ≡ Err r
Refuses u (check_live_divisor D) r = live_divisor_checks (net_of u) D ≡ Err r
Refuses u (check_signs x y z) r = sign_check x y z ≡ Err r
Refuses u (check_cell k1 k2 k3) r = cell_check (net_of u) (sizes u) (on_axes k1 k2 k3) ≡ Err r
Refuses u (check_placed q net cs us) r = placed_checks u q net cs us ≡ Err r
Refuses u (check_live_placing q) r = live_placing_checks u q ≡ Err r
Refuses u (check_early q) r = early_checks u q ≡ Err r
Refuses u (check_window gap) r = refuse_at WindowGap (found_of gap) no_refusal ≡ Err r
Refuses u (check_block_room n cs us) r = block_room_check n cs us ≡ Err r
Refuses u (check_file file) r = file_checks file ≡ Err r
Refuses u (check_limit i uncertainty) r = limit_at i uncertainty ≡ Err r
Refuses u (check_gap i correction uncertainty) r = gap_at i correction uncertainty ≡ Err r

-- ---- numbers and places

-- Section 5.4: the numbers that a call can answer, in the order of its checks
abbrev pub numbers_of : Call → List ℕ
numbers_of (build order net work) = 1 ∷ 2 ∷ 4 ∷ []
numbers_of (copy net) = 4 ∷ []
numbers_of (inspect v net defined work) = 3 ∷ 4 ∷ 14 ∷ []
numbers_of (load file cs us) = 5 ∷ 6 ∷ 7 ∷ 8 ∷ 16 ∷ 9 ∷ []
numbers_of (place x y z D) = 21 ∷ 22 ∷ 10 ∷ 11 ∷ 12 ∷ []
numbers_of (point net cs us x y z D) = 21 ∷ 22 ∷ 4 ∷ 9 ∷ 10 ∷ 11 ∷ 12 ∷ 13 ∷ 23 ∷ []
numbers_of (live net cs us x y z D flag) = 21 ∷ 22 ∷ 4 ∷ 9 ∷ 10 ∷ 11 ∷ 15 ∷ 12 ∷ 13 ∷ 23 ∷ []
numbers_of (value net cs us q) = 21 ∷ 22 ∷ 17 ∷ 4 ∷ 9 ∷ 13 ∷ 23 ∷ []
numbers_of (live_valuing net cs us q flag) = 21 ∷ 22 ∷ 17 ∷ 15 ∷ 4 ∷ 9 ∷ 13 ∷ 23 ∷ []
numbers_of (blend net cs us q) = 21 ∷ 22 ∷ 17 ∷ 4 ∷ 9 ∷ 13 ∷ 23 ∷ []
numbers_of (check_build order net work) = 1 ∷ 2 ∷ 4 ∷ []
numbers_of (check_given v net defined work) = 3 ∷ 4 ∷ []
numbers_of (compare s net defined) = 4 ∷ 14 ∷ []
numbers_of check_unit = 21 ∷ 22 ∷ []
numbers_of (check_room net cs us) = 4 ∷ 9 ∷ []
numbers_of (check_lent net cs us) = 21 ∷ 22 ∷ 4 ∷ 9 ∷ []
numbers_of (check_divisor D) = 10 ∷ 11 ∷ []
numbers_of (check_live_divisor D) = 10 ∷ 11 ∷ 15 ∷ []
numbers_of (check_signs x y z) = 12 ∷ []
numbers_of (check_cell k1 k2 k3) = 12 ∷ []
numbers_of (check_placed q net cs us) = 21 ∷ 22 ∷ 17 ∷ 4 ∷ 9 ∷ []
numbers_of (check_live_placing q) = 21 ∷ 22 ∷ 17 ∷ 15 ∷ []
numbers_of (check_early q) = 21 ∷ 22 ∷ 17 ∷ 15 ∷ []
numbers_of (check_window gap) = 13 ∷ []
numbers_of (check_block_room n cs us) = 9 ∷ []
numbers_of (check_file file) = 5 ∷ 6 ∷ 7 ∷ 8 ∷ 16 ∷ []
numbers_of (check_limit i uncertainty) = 8 ∷ []
numbers_of (check_gap i correction uncertainty) = 16 ∷ []

-- whether a number stands in a list
abbrev pub among : ℕ → List ℕ → Bool
among n [] = false
among n (x ∷ l) = eqb n x || among n l

-- Section 14.1, an answer or a numbered refusal: whatever a call is handed, a refusal that it answers has one
-- of its numbers. That a call answers at all is its contract, which asks nothing of the caller.
abbrev pub Numbers : Type 0
Numbers = (u : Unit) (c : Call) (r : Refusal) → Refuses u c r → among (number_of r) (numbers_of c) ≡ true

-- Section 14.1: so no refusal has the number 0.
abbrev pub NotZero : Type 0
NotZero = (u : Unit) (c : Call) (r : Refusal) → Refuses u c r → number_of r ≡ 0 → ⊥

-- Section 5.3: those that speak of a place
abbrev pub speaks_of_place : ℕ → Bool
speaks_of_place n = eqb n 2 || eqb n 8 || eqb n 13 || eqb n 14 || eqb n 16

-- Section 14.1: only 2, 8, 13, 14 and 16 speak of a place; with every other number it is 0.
abbrev pub NoPlace : Type 0
NoPlace =
    (u : Unit) (c : Call) (r : Refusal) → Refuses u c r
    → speaks_of_place (number_of r) ≡ false → place_of r ≡ 0

-- ---- what a refusal leaves

-- Section 14.1, what a refusal leaves: a refused build leaves the net slice and the work slice as found, a
-- refused load both block slices. A point call writes to no slice, an inspection only to its two work slices;
-- and a refused answer carries no unit. `FactoryShort` says it of copies.
abbrev pub Unchanged : Type 0
Unchanged =
    (r : Refusal)
    → ((u : Unit) (order net : List ℕ) (before after : List ℤ)
    → build_answer u order (length net) (length before) ≡ Err r
    → BuildWork order (length net) before after
    → (build_net order net (length before) ≡ net) × (after ≡ before))
    × ((u : Unit) (file : List ℕ) (corrections : List ℤ) (uncertainties : List ℕ)
    → load_answer u file corrections uncertainties ≡ Err r
    → (load_corrections file corrections uncertainties ≡ corrections)
    × (load_uncertainties file corrections uncertainties ≡ uncertainties))

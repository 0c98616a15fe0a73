-- The records and answers of the C interface: Section 14.1.
use Rattle.std.specs.Prelude.{Bool, Err, List, Ok, Result, ℕ, ℤ, ◌↔◌, ◌≡◌}
use Rattle.spline.specs.Multiplicities.{Multiplicities}
use Rattle.checks.specs.declared.Refusal.{Refusal}
use Rattle.unit.specs.Unit.{empty_unit}
use Rattle.unit.specs.declared.Unit.{Unit}
use Rattle.inspection.specs.Inspect.{inspect_answer}
use Rattle.factory.specs.Factory.{factory_answer}
use Rattle.limits.specs.Limits.{unit_checks}
use Rattle.field.specs.Load.{load_answer}
use Rattle.axis_order.specs.declared.Placing.{Placing}
use Rattle.placing.specs.Place.{place_answer}
use Rattle.answers.specs.Live.{live_answer, live_valuing_answer}
use Rattle.answers.specs.Point.{point_answer, valuing_answer}
use Rattle.flat_unit.specs.Record.{empty_flat, flat_block, flat_net, unit_of}
use Rattle.flat_unit.specs.declared.FlatUnit.{FlatUnit}
use Rattle.flat.specs.Flat.{flat_live, flat_placing, flat_point, no_placing, switched_on}
use Rattle.claims_calls.specs.Refusals.{Call, Refuses, build, copy, inspect, live, live_valuing, load}
use Rattle.claims_calls.specs.Refusals.{place, point, value}
use Rattle.builds.specs.Build.{build_answer}
use Rattle.checks.specs.Checks.{no_refusal}
use Rattle.checks.specs.declared.Refusal.TheVariants.{ImpossiblePlacing}

-- ---- numbers

-- Section 14.1: a call of the C interface that is handed the record u answers the number n
pub data Answers (u : FlatUnit) : Call → ℕ → Type 0 where
  by_build : (order : List ℕ) (net_length work_length : ℕ)
      → Answers u (build order net_length work_length)
      (flat_net u (build_answer (unit_of u) order net_length work_length)).number
  by_copy : (net_length : ℕ)
      → Answers u (copy net_length) (flat_net u (factory_answer (unit_of u) net_length)).number
  by_inspection : (v : Multiplicities) (net : List ℕ) (defined_length work_length : ℕ)
      → Answers u (inspect v net defined_length work_length)
      (flat_net u (inspect_answer (unit_of u) v net defined_length work_length)).number
  by_load : (file : List ℕ) (corrections : List ℤ) (uncertainties : List ℕ)
      → Answers u (load file corrections uncertainties)
      (flat_block u (load_answer (unit_of u) file corrections uncertainties)).number
  by_placing : (x y z : ℤ) (D : ℕ)
      → Answers u (place x y z D) (flat_placing (place_answer (unit_of u) x y z D)).number
  by_point : (net : List ℕ) (corrections : List ℤ) (uncertainties : List ℕ) (x y z : ℤ) (D : ℕ)
      → Answers u (point net corrections uncertainties x y z D)
      (flat_point (point_answer (unit_of u) net corrections uncertainties x y z D)).number
  by_live : (net : List ℕ) (corrections : List ℤ) (uncertainties : List ℕ) (x y z : ℤ) (D flag : ℕ)
      → Answers u (live net corrections uncertainties x y z D (switched_on flag))
      (flat_live (live_answer (unit_of u) net corrections uncertainties x y z D (switched_on flag))).number
  by_value : (net : List ℕ) (corrections : List ℤ) (uncertainties : List ℕ) (q : Placing)
      → Answers u (value net corrections uncertainties q)
      (flat_point (valuing_answer (unit_of u) net corrections uncertainties q)).number
  by_live_value : (net : List ℕ) (corrections : List ℤ) (uncertainties : List ℕ) (q : Placing) (flag : ℕ)
      → Answers u (live_valuing net corrections uncertainties q (switched_on flag))
      (flat_live (live_valuing_answer (unit_of u) net corrections uncertainties q (switched_on flag))).number

-- Section 14.1: whatever bytes are handed in, the number that a caller in C looks at is 0 exactly where the
-- call was not refused.
abbrev pub FlatNumbers : Type 0
FlatNumbers =
    (u : FlatUnit) (c : Call) (n : ℕ) → Answers u c n
    → (n ≡ 0) ↔ ((r : Refusal) → Refuses (unit_of u) c r → ⊥)

-- ---- units

-- Section 14.1: the record `now` that a call answers in C, beside the record that it was handed: it stands
-- for the unit that was answered; where the call was refused, it is the one that was handed in, byte by byte
abbrev pub Stands : FlatUnit → Result Unit Refusal → FlatUnit → Type 0
Stands before (Ok after) now = unit_of now ≡ after
Stands before (Err r) now = now ≡ before

-- Section 14.1: that holds of every call that sets a half of the unit; and the empty record stands for the
-- empty unit.
abbrev pub FlatUnits : Type 0
FlatUnits =
    (unit_of empty_flat ≡ empty_unit)
    × ((u : FlatUnit)
    → ((order : List ℕ) (net_length work_length : ℕ)
    → (let answer = build_answer (unit_of u) order net_length work_length in
    Stands u answer (flat_net u answer).unit))
    × ((net_length : ℕ)
    → (let answer = factory_answer (unit_of u) net_length in Stands u answer (flat_net u answer).unit))
    × ((v : Multiplicities) (net : List ℕ) (defined_length work_length : ℕ)
    → (let answer = inspect_answer (unit_of u) v net defined_length work_length in
    Stands u answer (flat_net u answer).unit))
    × ((file : List ℕ) (corrections : List ℤ) (uncertainties : List ℕ)
    → (let answer = load_answer (unit_of u) file corrections uncertainties in
    Stands u answer (flat_block u answer).unit)))

-- ---- zeros for a placing

-- The zeros that a refused placing call answers in C are refused by 17, for every unit with a net and a
-- block.
abbrev pub NoPlacing : Type 0
NoPlacing =
    (u : Unit) (net : List ℕ) (corrections : List ℤ) (uncertainties : List ℕ) (flag : Bool)
    → unit_checks u ≡ no_refusal
    → (valuing_answer u net corrections uncertainties no_placing ≡ Err ImpossiblePlacing)
    × (live_valuing_answer u net corrections uncertainties no_placing flag ≡ Err ImpossiblePlacing)

-- A flat answer has its refusal's number, and 0 without one; since no refusal has the number 0, this tells.
-- Its record is the unit that was answered, beside bytes that are kept.
use mathlib.Core.Bool.{false}
use mathlib.Core.Logic.{◌↔◌}
use mathlib.Core.Path.{◌∙◌, ◌≡◌, refl, sym}
use Prim.Native.Nat.{ℕ}
use native.Mathlib.Omega.{arith}
use lib.IntN.{ℤ}
use lib.ListN.{length}
use Rattle.spline.specs.Multiplicities.{Multiplicities, order_multiplicities}
use Rattle.checks.specs.declared.Refusal.{Refusal}
use Rattle.unit.specs.Unit.{with_block, with_net}
use Rattle.unit.specs.declared.Unit.{Unit}
use Rattle.builds.specs.Build.{build_answer}
use Rattle.orders.specs.Order.{build_checks}
use Rattle.inspection.specs.Inspect.{inspect_answer, inspect_checks}
use Rattle.factory.specs.Factory.{factory_answer, factory_checks, factory_shape}
use Rattle.file.specs.File.{origin1, origin2, origin3, size1, size2, size3}
use Rattle.field.specs.Load.{load_answer, load_checks}
use Rattle.three_axes.specs.Axes.{are_axes}
use Rattle.possible.specs.Possible.{possible}
use Rattle.flat_unit.specs.Record.{flat_block, flat_net, unit_of}
use Rattle.flat_unit.specs.declared.FlatUnit.{FlatUnit}
use Rattle.flat.specs.Flat.{flat_live, flat_placing, flat_point, no_placing}
use Rattle.claims_placings.proofs.Given.{impossible-stopped}
use Rattle.claims_points.proofs.Seventeen.{live-valuing-stopped, valuing-stopped}
use Rattle.claims_calls.proofs.Refusals.{not-zero}
use Rattle.claims_calls.specs.Records.{FlatNumbers, FlatUnits, NoPlacing, Stands, by_build, by_copy}
use Rattle.claims_calls.specs.Records.{by_inspection, by_live, by_live_value, by_load, by_placing}
use Rattle.claims_calls.specs.Records.{by_point, by_value}
use Rattle.checks.specs.Checks.{Checked, number_of, passed_or}
use Rattle.std.specs.Prelude.{Err, Ok, Result}
use Rattle.axis_order.specs.declared.Placing.{Placing}
use Rattle.answers.specs.declared.Fraction.{Fraction}
use Rattle.answers.specs.declared.LiveValue.{LiveValue}
use Rattle.answers.specs.declared.LiveValue.TheVariants.{Both, Shift}

-- ---- numbers

-- an answer was refused, and n is the refusal's number; or it was not, and n is 0
data Told {A : Type 0} (kept : Refusal → A) (answer : A) (n : ℕ) : Type 0 where
  refused : (r : Refusal) → answer ≡ kept r → n ≡ number_of r → Told kept answer n
  made : ((r : Refusal) → answer ≡ kept r → ⊥) → n ≡ 0 → Told kept answer n

-- so n is 0 exactly where it was not refused, if no refusal has the number 0
tells : {A : Type 0} {kept : Refusal → A} {answer : A} {n : ℕ} → Told kept answer n
    → ((r : Refusal) → answer ≡ kept r → number_of r ≡ 0 → ⊥)
    → (n ≡ 0) ↔ ((r : Refusal) → answer ≡ kept r → ⊥)
tells (refused r e h) nonzero = (λ z. absurd (nonzero r e (sym h ∙ z)), λ none. absurd (none r e))
tells (made none h) nonzero = (λ _. none, λ _. h)

net-told : (u : FlatUnit) (answer : Result Unit Refusal) → Told Err answer (flat_net u answer).number
net-told u (Ok after) =
    made (λ r h. let z : ◌≡◌ {A = ℕ} 0 1 = cc in absurd (omega arith)) refl
net-told u (Err r) = refused r refl refl

block-told : (u : FlatUnit) (answer : Result Unit Refusal)
    → Told Err answer (flat_block u answer).number
block-told u (Ok after) = net-told u (Ok after)
block-told u (Err r) = refused r refl refl

placing-told : (answer : Result Placing Refusal) → Told Err answer (flat_placing answer).number
placing-told (Ok q) =
    made (λ r h. let z : ◌≡◌ {A = ℕ} 0 1 = cc in absurd (omega arith)) refl
placing-told (Err r) = refused r refl refl

point-told : (answer : Result Fraction Refusal) → Told Err answer (flat_point answer).number
point-told (Ok f) =
    made (λ r h. let z : ◌≡◌ {A = ℕ} 0 1 = cc in absurd (omega arith)) refl
point-told (Err r) = refused r refl refl

live-told : (answer : Result LiveValue Refusal) → Told Err answer (flat_live answer).number
live-told (Ok (Both f)) =
    made (λ r h. let z : ◌≡◌ {A = ℕ} 0 1 = cc in absurd (omega arith)) refl
live-told (Ok (Shift n)) =
    made (λ r h. let z : ◌≡◌ {A = ℕ} 0 1 = cc in absurd (omega arith)) refl
live-told (Err r) = refused r refl refl

pub flat-numbers : FlatNumbers
flat-numbers u c n (by_build order net work) = tells (net-told u _) (not-zero (unit_of u) c)
flat-numbers u c n (by_copy net) = tells (net-told u _) (not-zero (unit_of u) c)
flat-numbers u c n (by_inspection v net defined work) = tells (net-told u _) (not-zero (unit_of u) c)
flat-numbers u c n (by_load file cs us) = tells (block-told u _) (not-zero (unit_of u) c)
flat-numbers u c n (by_placing x y z D) = tells (placing-told _) (not-zero (unit_of u) c)
flat-numbers u c n (by_point net cs us x y z D) = tells (point-told _) (not-zero (unit_of u) c)
flat-numbers u c n (by_live net cs us x y z D flag) = tells (live-told _) (not-zero (unit_of u) c)
flat-numbers u c n (by_value net cs us q) = tells (point-told _) (not-zero (unit_of u) c)
flat-numbers u c n (by_live_value net cs us q flag) = tells (live-told _) (not-zero (unit_of u) c)

-- ---- units

-- the record of a call that sets the net half
net-stands : (u : FlatUnit) (v : Multiplicities) (k : Checked)
    → (let answer = passed_or k (Ok (with_net (unit_of u) v)) Err in
    Stands u answer (flat_net u answer).unit)
net-stands u v (Ok _) = refl
net-stands u v (Err r) = refl

-- and of a load
block-stands : (u : FlatUnit) (n1 n2 n3 : ℕ) (o1 o2 o3 : ℤ) (k : Checked)
    → (let loaded = with_block (unit_of u) n1 n2 n3 o1 o2 o3 in
    let answer = passed_or k (Ok loaded) Err in
    Stands u answer (flat_block u answer).unit)
block-stands u n1 n2 n3 o1 o2 o3 (Ok _) = refl
block-stands u n1 n2 n3 o1 o2 o3 (Err r) = refl

pub flat-units : FlatUnits
unfolding build_answer factory_answer inspect_answer load_answer
flat-units = (
  refl,
  λ u. (
    λ order net work. net-stands u (order_multiplicities order) (build_checks order net work),
    λ net. net-stands u factory_shape (factory_checks net),
    λ v net defined work. net-stands u v (inspect_checks v net defined work),
    λ file cs us.
        block-stands u (size1 file) (size2 file) (size3 file) (origin1 file) (origin2 file) (origin3 file)
        (load_checks file (length cs) (length us)),
  ),
)

-- ---- zeros for a placing

zeros-impossible : (u : Unit) → possible u no_placing ≡ false
unfolding possible are_axes
zeros-impossible u = refl

pub no-placing : NoPlacing
no-placing u net corrections uncertainties flag e =
    let stopped = impossible-stopped u no_placing e (zeros-impossible u) in (
      (valuing-stopped u net corrections uncertainties no_placing).1 stopped,
      (live-valuing-stopped u net corrections uncertainties no_placing flag).1 stopped,
    )

-- The checks come in the definition's order; past 10 and 11 each coordinate is read from its axis' origin,
-- and past 12 on their signs none is negative, so the cast to 32 bits keeps it.
use mathlib.Core.Path.{◌∙◌, ◌≡◌, sym}
use Prim.Native.Nat.{ℕ}
use native.Mathlib.Omega.{arith}
use lib.IntN.{nat_abs, ℤ}
use Rattle.unit.specs.Unit.{net_of, sizes}
use Rattle.unit.specs.declared.Unit.{Unit}
use Rattle.limits.specs.Limits.{unit_checks}
use Rattle.divisor_checks.proofs.Accepted.{DivisorAccepted, divisor-accepted}
use Rattle.divisor_checks.specs.Divisor.{divisor_checks}
use Rattle.coordinates.proofs.Origin.{NoneNegative, signs-passed}
use Rattle.coordinates.specs.Coordinates.{from_origin, sign_check}
use Rattle.cell_checks.specs.Inside.{cell_check}
use Rattle.placing.proofs.HandedOn.{ReadAs, alike, casts-down, read_as}
use Rattle.placing.specs.Place.{inside_check, place_answer, position_checks}
use Rattle.placing.specs.Placing.{block_cells, block_placing, placing}
use Rattle.std.proofs.lemmas.Grind.{common_steps}
use Rattle.placing.proofs.place.Goals as goal
use Rattle.placing.proofs.place.Goals.{After-check_signs, In_ok-check_unit, In_ok-check_divisor}
use Rattle.checks.specs.Checks.{no_refusal, passed_or}
use Rattle.std.specs.Prelude.{Err, Ok, Result}
use Rattle.checks.specs.declared.Refusal.{Refusal}
use Rattle.axis_order.specs.declared.Placing.{Placing}

-- the answer by the numbers that were read
abbrev block_answer : Unit → ℕ → ℤ → ℤ → ℤ → Result Placing Refusal
block_answer u D x y z =
    passed_or (cell_check (net_of u) (sizes u) (block_cells u (nat_abs x) (nat_abs y) (nat_abs z) D))
    (Ok (block_placing u (nat_abs x) (nat_abs y) (nat_abs z) D)) Err

-- the unit has c
unit-passed : (c : In_ok-check_unit) → unit_checks c.args.unit ≡ no_refusal
unit-passed c = sym c.check_unit.ensures ∙ c.in_ok-check_unit.was

-- and the divisor
module _ (c : In_ok-check_divisor) where
  divisor-passed : divisor_checks (net_of c.args.unit) c.args.at.divisor ≡ no_refusal
  divisor-passed = sym c.check_divisor.ensures ∙ c.in_ok-check_divisor.was

-- each coordinate is read from the origin
module _ (c : After-check_signs) where
  divisor : DivisorAccepted (net_of c.args.unit) c.args.at.divisor
  divisor = divisor-accepted _ _ (sym c.check_divisor.ensures ∙ c.in_ok-check_divisor.was)

  first : (let a = c.args in
      ReadAs a.at.x a.unit.o1 a.at.divisor c.from_origin-a.result)
  first =
      let told = c.type_inv.unit.1.1.1.1.1.1.1.1.1 in
      read_as c.args.at.divisor (record { sfits = c.type_inv.at.0.1 }) (record { sfits = told.0.1 })
      c.from_origin-a.ensures.read.0 (omega (arith, c.from_origin-a.ensures.read.1, divisor.few))

  second : (let a = c.args in
      ReadAs a.at.y a.unit.o2 a.at.divisor c.from_origin-b.result)
  second =
      let told = c.type_inv.unit.1.1.1.1.1.1.1.1.1 in
      read_as c.args.at.divisor (record { sfits = c.type_inv.at.1.0.1 }) (record { sfits = told.1.0.1 })
      c.from_origin-b.ensures.read.0 (omega (arith, c.from_origin-b.ensures.read.1, divisor.few))

  third : (let a = c.args in
      ReadAs a.at.z a.unit.o3 a.at.divisor c.from_origin-c.result)
  third =
      let told = c.type_inv.unit.1.1.1.1.1.1.1.1.1 in
      read_as c.args.at.divisor (record { sfits = c.type_inv.at.1.1.0.1 }) (record { sfits = told.1.1.0.1 })
      c.from_origin-c.ensures.read.0 (omega (arith, c.from_origin-c.ensures.read.1, divisor.few))

  -- and their signs are looked at
  signs-are : (let a = c.args in
      c.check_signs.result
      ≡ sign_check (from_origin a.at.x a.unit.o1 a.at.divisor)
      (from_origin a.at.y a.unit.o2 a.at.divisor) (from_origin a.at.z a.unit.o3 a.at.divisor))
  signs-are = c.check_signs.ensures ∙ alike sign_check first.is second.is third.is

  -- where they pass, none is negative
  past : c.check_signs.result ≡ no_refusal → (let a = c.args in
      NoneNegative (from_origin a.at.x a.unit.o1 a.at.divisor)
      (from_origin a.at.y a.unit.o2 a.at.divisor) (from_origin a.at.z a.unit.o3 a.at.divisor))
  past passed = signs-passed _ _ _ (sym signs-are ∙ passed)

pub overflow_cast-a : goal.overflow_cast-a
overflow_cast-a c = casts-down (first (goal.at.overflow_cast-a c).After-check_signs) (past (goal.at.overflow_cast-a c).After-check_signs c.in_ok-check_signs.was).first

pub overflow_cast-b : goal.overflow_cast-b
overflow_cast-b c = casts-down (second (goal.at.overflow_cast-b c).After-check_signs) (past (goal.at.overflow_cast-b c).After-check_signs c.in_ok-check_signs.was).second

pub overflow_cast-c : goal.overflow_cast-c
overflow_cast-c c = casts-down (third (goal.at.overflow_cast-c c).After-check_signs) (past (goal.at.overflow_cast-c c).After-check_signs c.in_ok-check_signs.was).third

pub returns : goal.returns
unfolding place_answer position_checks inside_check placing
returns c =
    simp (
      unit-passed (goal.at.returns c).In_ok-check_unit,
      divisor-passed (goal.at.returns c).In_ok-check_divisor,
      sym (signs-are (goal.at.returns c).After-check_signs) ∙ c.in_ok-check_signs.was,
    )
    (c.place_in_block.ensures
    ∙ alike (block_answer c.args.unit c.args.at.divisor)
    (first (goal.at.returns c).After-check_signs).is (second (goal.at.returns c).After-check_signs).is
    (third (goal.at.returns c).After-check_signs).is)

pub returns-in_err-check_signs : goal.returns-in_err-check_signs
unfolding place_answer position_checks inside_check
returns-in_err-check_signs c =
    let k = signs-are (goal.at.returns-in_err-check_signs c).After-check_signs in
    grind (arith, common_steps, k)

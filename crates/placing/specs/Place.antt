-- The check of a point, and what a placing call answers, by cases in the order of its checks (21, 22, 10, 11,
-- 12): Section 9.5.
use Rattle.std.specs.Prelude.{Err, Ok, Result, ℕ, ℤ}
use Rattle.unit.specs.Unit.{net_of, sizes}
use Rattle.unit.specs.declared.Unit.{Unit}
use Rattle.limits.specs.Limits.{unit_checks}
use Rattle.divisor_checks.specs.Divisor.{divisor_checks}
use Rattle.coordinates.specs.Coordinates.{from_origin, sign_check}
use Rattle.cell_checks.specs.Inside.{cell_check}
use Rattle.placing.specs.Placing.{cells, placing}
use Rattle.checks.specs.Checks.{Checked, and_then, passed_or}
use Rattle.checks.specs.declared.Refusal.{Refusal}
use Rattle.axis_order.specs.declared.Placing.{Placing}

-- Section 5.3: 12, for the one or the other
unfoldable pub inside_check : Unit → ℤ → ℤ → ℤ → ℕ → Checked
inside_check u x y z D =
    and_then (sign_check (from_origin x u.o1 D) (from_origin y u.o2 D) (from_origin z u.o3 D))
    (cell_check (net_of u) (sizes u) (cells u x y z D))

-- Section 5.3: 10, 11, 12
unfoldable pub position_checks : Unit → ℤ → ℤ → ℤ → ℕ → Checked
position_checks u x y z D = and_then (divisor_checks (net_of u) D) (inside_check u x y z D)

-- Section 9.5: the answer
unfoldable pub place_answer : Unit → ℤ → ℤ → ℤ → ℕ → Result Placing Refusal
place_answer u x y z D =
    passed_or (and_then (unit_checks u) (position_checks u x y z D)) (Ok (placing u x y z D)) Err

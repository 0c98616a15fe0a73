-- A unit and a point that passed their checks.
use mathlib.Core.Bool.{true}
use mathlib.Core.Path.{◌≡◌}
use Prim.Native.Nat.{ℕ}
use borrow.Author.Tests.{not-false}
use lib.IntN.{ℤ}
use Rattle.checks.proofs.Checks.{if-passed, made-by, refused-by, then-passed}
use Rattle.checks.specs.declared.Refusal.{Refusal}
use Rattle.unit.specs.Unit.{net_of, sizes}
use Rattle.unit.specs.declared.Unit.{Unit}
use Rattle.limits.specs.Limits.{unit_checks}
use Rattle.divisor_checks.proofs.Accepted.{DivisorAccepted, divisor-accepted}
use Rattle.divisor_checks.specs.Divisor.{divisor_checks}
use Rattle.coordinates.proofs.Origin.{NoneNegative, signs-passed}
use Rattle.coordinates.specs.Coordinates.{from_origin, sign_check}
use Rattle.cell_checks.specs.Inside.{cell_check, inside}
use Rattle.axis_order.specs.declared.Placing.{Placing}
use Rattle.placing.specs.Place.{inside_check, place_answer, position_checks}
use Rattle.placing.specs.Placing.{cells, placing}
use Rattle.checks.specs.Checks.{no_refusal}
use Rattle.std.specs.Prelude.{Err, Ok}
use Rattle.checks.specs.declared.Refusal.TheVariants.{Outside}

pub record PointAccepted (u : Unit) (x y z : ℤ) (D : ℕ) : Type 0 where
  pub divisor : DivisorAccepted (net_of u) D
  pub past-origin : NoneNegative (from_origin x u.o1 D) (from_origin y u.o2 D) (from_origin z u.o3 D)
  pub point_inside : inside (net_of u) (sizes u) (cells u x y z D) ≡ true

-- a point that passes 10, 11 and 12: its divisor is within limits, it is not before the origin, and its cell
-- is inside
pub point-accepted : (u : Unit) (x y z : ℤ) (D : ℕ) → position_checks u x y z D ≡ no_refusal
    → PointAccepted u x y z D
unfolding position_checks inside_check cell_check
point-accepted u x y z D h =
    let a = then-passed (divisor_checks (net_of u) D) _ h in
    let b = then-passed (sign_check _ _ _) (cell_check (net_of u) (sizes u) (cells u x y z D)) a.1 in
    let c = if-passed Outside _ _ b.1 in
    record {
      divisor = divisor-accepted (net_of u) D a.0;
      past-origin = signs-passed _ _ _ b.0;
      point_inside = not-false _ c.0;
    }

-- ---- what a placing call answered

module _ (u : Unit) (x y z : ℤ) (D : ℕ) (e : unit_checks u ≡ no_refusal) where
  -- for a unit that passes, a refusal is that of the point's checks
  pub place-refused : {r : Refusal} → place_answer u x y z D ≡ Err r
      → position_checks u x y z D ≡ Err r
  unfolding place_answer
  place-refused h = refused-by (position_checks u x y z D) (placing u x y z D) (rw e at h)

  -- and a placing is the point's, which has passed its checks
  pub place-placed : {q : Placing} → place_answer u x y z D ≡ Ok q
      → (position_checks u x y z D ≡ no_refusal) × (q ≡ placing u x y z D)
  unfolding place_answer
  place-placed h = made-by (position_checks u x y z D) (placing u x y z D) (rw e at h)

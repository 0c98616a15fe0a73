-- Placings that the placing call gives, and others: Section 14.10.
use Rattle.std.specs.Prelude.{Ok, ℕ, ℤ, ◌<◌, ◌^◌, ◌≡◌}
use Rattle.std.specs.Int.Signed.{mag}
use Rattle.unit.specs.declared.Unit.{Unit}
use Rattle.limits.specs.Limits.{unit_checks}
use Rattle.axis_order.specs.declared.Placing.{Placing}
use Rattle.placing.specs.Place.{place_answer}
use Rattle.checks.specs.Checks.{no_refusal}

-- the unit has a net and a block, and the placing call gives q at no coordinates, over whatever divisor
pub record NeverGiven (u : Unit) (q : Placing) : Type 0 where
  pub equipped : unit_checks u ≡ no_refusal
  pub at_no_point : (x y z : ℤ) (D : ℕ) → place_answer u x y z D ≡ Ok q → ⊥

-- a point for which it does, in numbers of 32 bits, the coordinates with a sign (`mag` of −(k + 1) is k)
pub record GivenAt (u : Unit) (q : Placing) : Type 0 where
  pub x : ℤ
  pub y : ℤ
  pub z : ℤ
  pub D : ℕ
  pub given : place_answer u x y z D ≡ Ok q
  pub fits : (mag x < 2 ^ 31) × (mag y < 2 ^ 31) × (mag z < 2 ^ 31) × (D < 2 ^ 32)

-- each number of the origin has 16 bits, as in any unit that can be handed in
pub record OriginFits (u : Unit) : Type 0 where
  pub first : mag u.o1 < 2 ^ 15
  pub second : mag u.o2 < 2 ^ 15
  pub third : mag u.o3 < 2 ^ 15

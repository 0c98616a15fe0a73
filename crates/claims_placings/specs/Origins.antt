-- The origin of a block, as far as a placing takes it up: Section 14.12.
use Rattle.std.specs.Prelude.{Err, pos, ℕ, ℤ, ◌*ℤ◌, ◌+ℤ◌, ◌<ℤ◌, ◌≡◌, ◌⊎◌}
use Rattle.unit.specs.Unit.{empty_unit, net_of}
use Rattle.unit.specs.declared.Unit.{Unit}
use Rattle.limits.specs.Limits.{unit_checks}
use Rattle.divisor_checks.specs.Divisor.{divisor_checks}
use Rattle.placing.specs.Place.{place_answer}
use Rattle.checks.specs.Checks.{no_refusal}
use Rattle.checks.specs.declared.Refusal.TheVariants.{Outside}

-- an origin of 0
pub record AtZero (u : Unit) : Type 0 where
  pub first : u.o1 ≡ pos 0
  pub second : u.o2 ≡ pos 0
  pub third : u.o3 ≡ pos 0

-- The empty unit's origin is 0.
abbrev pub EmptyAtZero : Type 0
EmptyAtZero = AtZero empty_unit

-- the unit with its origin moved by so many entries on each axis
abbrev pub moved_by : Unit → ℤ → ℤ → ℤ → Unit
moved_by u d1 d2 d3 = record {
  has_net = u.has_net;
  v1 = u.v1;
  v2 = u.v2;
  v3 = u.v3;
  v4 = u.v4;
  has_block = u.has_block;
  n1 = u.n1;
  n2 = u.n2;
  n3 = u.n3;
  o1 = u.o1 +ℤ d1;
  o2 = u.o2 +ℤ d2;
  o3 = u.o3 +ℤ d3;
}

-- a coordinate over D, moved by d entries
abbrev pub shifted : ℤ → ℤ → ℕ → ℤ
shifted x d D = x +ℤ d *ℤ pos D

-- A point before the origin, on one axis or more, meets 12 where no check before it applies.
abbrev pub BeforeOrigin : Type 0
BeforeOrigin =
    (u : Unit) (x y z : ℤ) (D : ℕ)
    → unit_checks u ≡ no_refusal → divisor_checks (net_of u) D ≡ no_refusal
    → (x <ℤ (u.o1 *ℤ pos D)) ⊎ ((y <ℤ (u.o2 *ℤ pos D)) ⊎ (z <ℤ (u.o3 *ℤ pos D)))
    → place_answer u x y z D ≡ Err Outside

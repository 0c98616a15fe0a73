-- The unit record: Section 4.
use Rattle.std.specs.Prelude.{Bool, ◌&&◌, false, true, ℕ, pos, ℤ}
use Rattle.spline.specs.Multiplicities.{Multiplicities, allowed, multiplicities}
use Rattle.spline.specs.Place.{Axis, on_axes}
use Rattle.allowed.specs.Allowed.{sizes_allowed}
use Rattle.unit.specs.declared.Unit.{Unit}

-- Section 4.1: the empty unit, all zeros
abbrev pub empty_unit : Unit
empty_unit = record {
  has_net = false;
  v1 = 0;
  v2 = 0;
  v3 = 0;
  v4 = 0;
  has_block = false;
  n1 = 0;
  n2 = 0;
  n3 = 0;
  o1 = pos 0;
  o2 = pos 0;
  o3 = pos 0;
}

-- Section 4.1: the four multiplicities in a unit
abbrev pub net_of : Unit → Multiplicities
net_of u = multiplicities u.v1 u.v2 u.v3 u.v4

-- Section 4.2: the unit has a net
unfoldable pub holds_net : Unit → Bool
holds_net u = u.has_net && allowed (net_of u)

-- Section 4.3: the sizes of its block
abbrev pub sizes : Unit → Axis → ℕ
sizes u = on_axes u.n1 u.n2 u.n3

-- Section 4.3: the unit has a block
unfoldable pub holds_block : Unit → Bool
holds_block u = u.has_block && sizes_allowed u.n1 u.n2 u.n3

-- Section 4.4: the unit with its net half set
abbrev pub with_net : Unit → Multiplicities → Unit
with_net u v = record {
  has_net = true;
  v1 = v.v1;
  v2 = v.v2;
  v3 = v.v3;
  v4 = v.v4;
  has_block = u.has_block;
  n1 = u.n1;
  n2 = u.n2;
  n3 = u.n3;
  o1 = u.o1;
  o2 = u.o2;
  o3 = u.o3;
}

-- Section 4.4: the unit with its block half set, sizes and origin
abbrev pub with_block : Unit → ℕ → ℕ → ℕ → ℤ → ℤ → ℤ → Unit
with_block u n1 n2 n3 o1 o2 o3 = record {
  has_net = u.has_net;
  v1 = u.v1;
  v2 = u.v2;
  v3 = u.v3;
  v4 = u.v4;
  has_block = true;
  n1 = n1;
  n2 = n2;
  n3 = n3;
  o1 = o1;
  o2 = o2;
  o3 = o3;
}

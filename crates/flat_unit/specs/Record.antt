-- The unit record of the C interface, and the answers that carry one: Section 12.
use Rattle.std.specs.Prelude.{Err, Ok, Result, eqb, pos, ℕ, ◌≡◌}
use Rattle.unit.specs.declared.Unit.{Unit}
use Rattle.flat_unit.specs.declared.FlatRefusal.{FlatRefusal}
use Rattle.flat_unit.specs.declared.FlatUnit.{FlatUnit}
use Rattle.flat_unit.specs.declared.FlatUnitAnswer.{FlatUnitAnswer}
use Rattle.checks.specs.Checks.{number_of, place_of}
use Rattle.checks.specs.declared.Refusal.{Refusal}

-- Section 12.1: the unit that a record stands for; of a flag, 1 says present, and every other byte counts as
-- absent
abbrev pub unit_of : FlatUnit → Unit
unit_of u = record {
  has_net = eqb u.has_net 1;
  v1 = u.v1;
  v2 = u.v2;
  v3 = u.v3;
  v4 = u.v4;
  has_block = eqb u.has_block 1;
  n1 = u.n1;
  n2 = u.n2;
  n3 = u.n3;
  o1 = u.o1;
  o2 = u.o2;
  o3 = u.o3;
}

-- Section 4.1: the empty unit as a record
abbrev pub empty_flat : FlatUnit
empty_flat = record {
  has_net = 0;
  v1 = 0;
  v2 = 0;
  v3 = 0;
  v4 = 0;
  has_block = 0;
  n1 = 0;
  n2 = 0;
  n3 = 0;
  o1 = pos 0;
  o2 = pos 0;
  o3 = pos 0;
}

-- Section 12.1: the record `before` with the net of a unit; every byte of its block half is kept
abbrev pub net_half : FlatUnit → Unit → FlatUnit
net_half before after = record {
  has_net = 1;
  v1 = after.v1;
  v2 = after.v2;
  v3 = after.v3;
  v4 = after.v4;
  has_block = before.has_block;
  n1 = before.n1;
  n2 = before.n2;
  n3 = before.n3;
  o1 = before.o1;
  o2 = before.o2;
  o3 = before.o3;
}

-- Section 12.1: the record `before` with the block of a unit; every byte of its net half is kept
abbrev pub block_half : FlatUnit → Unit → FlatUnit
block_half before after = record {
  has_net = before.has_net;
  v1 = before.v1;
  v2 = before.v2;
  v3 = before.v3;
  v4 = before.v4;
  has_block = 1;
  n1 = after.n1;
  n2 = after.n2;
  n3 = after.n3;
  o1 = after.o1;
  o2 = after.o2;
  o3 = after.o3;
}

-- Section 12.2: a refusal by its number and place, and the record as it was handed in
abbrev pub refused_unit : ℕ → ℕ → FlatUnit → FlatUnitAnswer
refused_unit number place before = record { number = number; place = place; unit = before }

-- Section 12.2: the answer of a call that sets the net half and was handed the record `before`: a refusal's
-- number and place and the record as it was, or 0, 0 and the record with the net
abbrev pub flat_net : FlatUnit → Result Unit Refusal → FlatUnitAnswer
flat_net before (Ok after) = record { number = 0; place = 0; unit = net_half before after }
flat_net before (Err r) = refused_unit (number_of r) (place_of r) before

-- Section 12.2: the answer of a load, likewise
abbrev pub flat_block : FlatUnit → Result Unit Refusal → FlatUnitAnswer
flat_block before (Ok after) = record { number = 0; place = 0; unit = block_half before after }
flat_block before (Err r) = refused_unit (number_of r) (place_of r) before

-- Section 5.3: a refusal's number and place
abbrev pub flat_refusal : Refusal → FlatRefusal
flat_refusal r = record { number = number_of r; place = place_of r }

-- ---- of refusals of any kind R: `turns` says what number and place they turn into

-- a flat answer with this number and place tells of the refusal
abbrev pub Tells : {R F : Type 0} → (R → FlatRefusal → Type 0) → (ℕ → ℕ → F) → R → ℕ → ℕ → F → Type 0
Tells turns refused r number place flat =
    turns r (record { number = number; place = place }) × (flat ≡ refused number place)

-- the changed record where a unit is answered
abbrev pub changed_by : {R : Type 0} → (Unit → FlatUnit) → Result Unit R → Result FlatUnit R
changed_by half (Ok after) = Ok (half after)
changed_by half (Err r) = Err r

-- Section 12.2: what the flat answer is that is made of it
abbrev pub UnitMade : {R : Type 0} → (R → FlatRefusal → Type 0) → FlatUnit → Result FlatUnit R
    → FlatUnitAnswer → Type 0
UnitMade turns before (Ok unit) flat = flat ≡ record { number = 0; place = 0; unit = unit }
UnitMade turns before (Err r) flat =
    Tells turns (λ number place. refused_unit number place before) r flat.number flat.place flat

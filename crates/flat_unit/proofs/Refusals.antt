-- Of a refusal of the library's own, the flat answer is the one that the definitions say.
use mathlib.Core.Path.{◌∙◌, ◌≡◌, ap}
use Prim.Native.Nat.{ℕ}
use Rattle.std.specs.Prelude.{Err, Ok, Result}
use Rattle.checks.specs.Checks.{number_of, place_of}
use Rattle.checks.specs.declared.Refusal.{Refusal}
use Rattle.unit.specs.declared.Unit.{Unit}
use Rattle.flat_unit.specs.declared.FlatRefusal.{FlatRefusal}
use Rattle.flat_unit.specs.declared.FlatUnit.{FlatUnit}
use Rattle.flat_unit.specs.declared.FlatUnitAnswer.{FlatUnitAnswer}
use Rattle.flat_unit.specs.Record.{Tells, UnitMade, block_half, changed_by, flat_block, flat_net, flat_refusal}
use Rattle.flat_unit.specs.Record.{net_half, refused_unit}

-- it tells that refusal's number and place
pub told : {F : Type 0} (refused : ℕ → ℕ → F) (r : Refusal) (number place : ℕ) (flat : F)
    → Tells (λ r f. f ≡ flat_refusal r) refused r number place flat
    → flat ≡ refused (number_of r) (place_of r)
told refused r number place flat h = h.1 ∙ ap (λ (f : FlatRefusal). refused f.number f.place) h.0

-- of a call that changes the net half
pub as-net : (before : FlatUnit) (answer : Result Unit Refusal) (flat : FlatUnitAnswer)
    → UnitMade (λ r f. f ≡ flat_refusal r) before (changed_by (net_half before) answer) flat
    → flat ≡ flat_net before answer
as-net before (Ok after) flat h = h
as-net before (Err r) flat h = told (λ number place. refused_unit number place before) r _ _ flat h

-- of one that changes the block half
pub as-block : (before : FlatUnit) (answer : Result Unit Refusal) (flat : FlatUnitAnswer)
    → UnitMade (λ r f. f ≡ flat_refusal r) before (changed_by (block_half before) answer) flat
    → flat ≡ flat_block before answer
as-block before (Ok after) flat h = h
as-block before (Err r) flat h = told (λ number place. refused_unit number place before) r _ _ flat h

-- The checks that several calls share: of a unit, and of what is lent. Section 5.3.
use Rattle.std.specs.Prelude.{◌||◌, not, ℕ, ltb}
use Rattle.spline.specs.Box.{places, width}
use Rattle.unit.specs.Unit.{holds_block, holds_net, net_of, sizes}
use Rattle.unit.specs.declared.Unit.{Unit}
use Rattle.checks.specs.Checks.{Checked, and_then, no_refusal, refuse_if}
use Rattle.checks.specs.declared.Refusal.TheVariants.{BlockRoom, NetRoom, NoBlock, NoNet}

-- Section 5.3: 21 where the unit has no net, 22 where it has no block
unfoldable pub unit_checks : Unit → Checked
unit_checks u = refuse_if NoNet (not (holds_net u)) (refuse_if NoBlock (not (holds_block u)) no_refusal)

-- Section 5.3: check 9, that the two block slices, given by their lengths, hold the n entries of a block
abbrev pub block_room_check : ℕ → ℕ → ℕ → Checked
block_room_check n corrections_length uncertainties_length =
    refuse_if BlockRoom (ltb corrections_length n || ltb uncertainties_length n) no_refusal

-- Section 5.3: 4 for a net slice shorter than the net's box, 9 for a block slice shorter than the block
abbrev pub room_checks : Unit → ℕ → ℕ → ℕ → Checked
room_checks u net_length corrections_length uncertainties_length =
    refuse_if NetRoom (ltb net_length (places (width (net_of u))))
    (block_room_check (places (sizes u)) corrections_length uncertainties_length)

-- Section 5.3: 21, 22, 4, 9
unfoldable pub lent_checks : Unit → ℕ → ℕ → ℕ → Checked
lent_checks u net_length corrections_length uncertainties_length =
    and_then (unit_checks u) (room_checks u net_length corrections_length uncertainties_length)

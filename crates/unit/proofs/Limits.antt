-- What is known of a unit that counts as having a net or a block.
use mathlib.Core.Bool.{true}
use mathlib.Core.Path.{◌≡◌}
use Rattle.allowed.proofs.Limits.{BlockLimits, NetLimits, allowed-limits, sizes-limits, split}
use Rattle.unit.specs.Unit.{holds_block, holds_net, net_of}
use Rattle.unit.specs.declared.Unit.{Unit}

-- what `holds_net` says of a unit
pub record HasNet (u : Unit) : Type 0 where
  pub present : u.has_net ≡ true
  pub limits : NetLimits (net_of u)

-- what `holds_block` says of a unit
pub record HasBlock (u : Unit) : Type 0 where
  pub present : u.has_block ≡ true
  pub limits : BlockLimits u.n1 u.n2 u.n3

-- a unit that counts as having a net: its flag is set, its multiplicities are within the limits
pub net-limits : (u : Unit) → holds_net u ≡ true → HasNet u
unfolding holds_net
net-limits u h = let e = split _ _ h in record { present = e.0; limits = allowed-limits (net_of u) e.1 }

-- a unit that counts as having a block: its flag is set, its sizes are within the limits
pub block-limits : (u : Unit) → holds_block u ≡ true → HasBlock u
unfolding holds_block
block-limits u h =
    let e = split _ _ h in
    record { present = e.0; limits = sizes-limits u.n1 u.n2 u.n3 e.1 }

-- A unit and lent slices that passed their checks.
use mathlib.Core.Bool.{true}
use mathlib.Core.Path.{◌≡◌}
use Prim.Native.Nat.{◌≤◌, ℕ}
use borrow.Author.Tests.{ltb-false, not-false}
use Rattle.spline.specs.Box.{places, width}
use Rattle.checks.proofs.Checks.{if-passed, or-false, then-passed}
use Rattle.unit.specs.Unit.{holds_block, holds_net, net_of, sizes}
use Rattle.unit.specs.declared.Unit.{Unit}
use Rattle.limits.specs.Limits.{block_room_check, lent_checks, room_checks, unit_checks}
use Rattle.checks.specs.Checks.{no_refusal}
use Rattle.checks.specs.declared.Refusal.TheVariants.{BlockRoom, NetRoom, NoBlock, NoNet}

pub record Equipped (u : Unit) : Type 0 where
  pub net_held : holds_net u ≡ true
  pub block_held : holds_block u ≡ true

-- a unit that passes 21 and 22 has a net and a block
pub equipped : (u : Unit) → unit_checks u ≡ no_refusal → Equipped u
unfolding unit_checks
equipped u h =
    let a = if-passed NoNet _ _ h in
    let b = if-passed NoBlock _ _ a.1 in
    record { net_held = not-false _ a.0; block_held = not-false _ b.0 }

-- block slices that check 9 passes are long enough
pub room-passed : (n corrections uncertainties : ℕ) → block_room_check n corrections uncertainties ≡ no_refusal
    → (n ≤ corrections) × (n ≤ uncertainties)
room-passed n corrections uncertainties h =
    let t = or-false _ _ (if-passed BlockRoom _ _ h).0 in
    (ltb-false _ _ t.0, ltb-false _ _ t.1)

module _ (u : Unit) (net_length corrections_length uncertainties_length : ℕ) where
  pub record Lent : Type 0 where
    pub unit : Equipped u
    pub net_long : places (width (net_of u)) ≤ net_length
    pub corrections_long : places (sizes u) ≤ corrections_length
    pub uncertainties_long : places (sizes u) ≤ uncertainties_length

  -- slices that pass 4 and 9 are long enough
  pub lent_by : Equipped u → room_checks u net_length corrections_length uncertainties_length ≡ no_refusal → Lent
  lent_by e h =
      let b = if-passed NetRoom _ _ h in
      let c = room-passed (places (sizes u)) corrections_length uncertainties_length b.1 in
      record { unit = e; net_long = ltb-false _ _ b.0; corrections_long = c.0; uncertainties_long = c.1 }

  -- where what is lent has passed its checks, the unit has passed its own
  pub unit-passed : lent_checks u net_length corrections_length uncertainties_length ≡ no_refusal
      → unit_checks u ≡ no_refusal
  unfolding lent_checks
  unit-passed h = (then-passed (unit_checks u) _ h).0

  -- and has a net and a block
  pub lent : lent_checks u net_length corrections_length uncertainties_length ≡ no_refusal → Lent
  unfolding lent_checks
  lent h = let a = then-passed (unit_checks u) _ h in lent_by (equipped u a.0) a.1

-- The flag and the test of the multiplicities are the two of the definition.
use Rattle.unit.specs.Unit.{holds_net}
use Rattle.unit.proofs.Unit.holds_net.Goals as goal

pub returns-then-has_net : goal.returns-then-has_net
unfolding holds_net
returns-then-has_net c = simp c.if-has_net.true c.multiplicities_allowed.ensures

pub returns : goal.returns
unfolding holds_net
returns c = simp c.if-has_net.false

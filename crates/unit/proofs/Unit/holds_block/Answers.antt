-- The flag and the test of the sizes are the two of the definition.
use Rattle.unit.specs.Unit.{holds_block}
use Rattle.unit.proofs.Unit.holds_block.Goals as goal

pub returns-then-has_block : goal.returns-then-has_block
unfolding holds_block
returns-then-has_block c = simp c.if-has_block.true c.sizes_allowed.ensures

pub returns : goal.returns
unfolding holds_block
returns c = simp c.if-has_block.false

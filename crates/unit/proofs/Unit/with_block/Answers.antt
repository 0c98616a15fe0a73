-- Each field is the one of the definition; a signed number is what its bits stand for.
use mir.Facts.{to_z-of_z}
use Rattle.unit.proofs.Unit.with_block.Goals as goal

pub returns : goal.returns
returns c = simp (to_z-of_z c.ranges.o1, to_z-of_z c.ranges.o2, to_z-of_z c.ranges.o3)

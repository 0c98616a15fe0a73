-- The ends of the runs of 1s, 3s and 2s are those of the definition, and are compared in its order.
use Rattle.std.proofs.lemmas.Grind.{common_steps}
use native.Mathlib.Omega.{arith}
use Rattle.defined_order.specs.Bytes.{defined_byte}
use Rattle.defined_order.proofs.byte_at.Goals as goal

pub returns-then-i-ones : goal.returns-then-i-ones
unfolding defined_byte
returns-then-i-ones c = grind (arith, common_steps)

pub returns-then-i-threes : goal.returns-then-i-threes
unfolding defined_byte
returns-then-i-threes c = grind (arith, common_steps)

pub returns-then-i-twos : goal.returns-then-i-twos
unfolding defined_byte
returns-then-i-twos c = grind (arith, common_steps)

pub returns-else-i-twos : goal.returns-else-i-twos
unfolding defined_byte
returns-else-i-twos c = grind (arith, common_steps)

-- The two tests are those of the definition, in its order.
use Rattle.std.proofs.lemmas.Grind.{common_steps}
use native.Mathlib.Omega.{arith}
use Rattle.edges.specs.EdgeWidth.{edge_width}
use Rattle.edges.proofs.edge_width.Goals as goal

pub returns-then-z-v-clause-width : goal.returns-then-z-v-clause-width
unfolding edge_width
returns-then-z-v-clause-width c = grind (arith, common_steps)

pub returns-else-z-v-clause-width : goal.returns-else-z-v-clause-width
unfolding edge_width
returns-else-z-v-clause-width c = grind (arith, common_steps)

-- The three tests are those of the definition, in its order.
use Rattle.std.proofs.lemmas.Grind.{common_steps}
use native.Mathlib.Omega.{arith}
use Rattle.fitting.specs.Fitting.{differences_fit}
use Rattle.fitting.proofs.differences_fit.Goals as goal

pub returns-then-is_held-2 : goal.returns-then-is_held-2
unfolding differences_fit
returns-then-is_held-2 c = grind (arith, common_steps)

pub returns-else-is_held-2 : goal.returns-else-is_held-2
unfolding differences_fit
returns-else-is_held-2 c = grind (arith, common_steps)

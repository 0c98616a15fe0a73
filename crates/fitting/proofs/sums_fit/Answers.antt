-- The two tests are those of the definition, in its order.
use Rattle.std.proofs.lemmas.Grind.{common_steps}
use native.Mathlib.Omega.{arith}
use Rattle.fitting.specs.Fitting.{sums_fit}
use Rattle.fitting.proofs.sums_fit.Goals as goal

pub returns-then-is_held : goal.returns-then-is_held
unfolding sums_fit
returns-then-is_held c = grind (arith, common_steps)

pub returns-else-is_held : goal.returns-else-is_held
unfolding sums_fit
returns-else-is_held c = grind (arith, common_steps)

-- The table's rows are the binomials, by computation.
use mathlib.Core.Path.{refl}
use Rattle.sums.specs.Coefficient.{binomial, factorial}
use Rattle.sums.specs.Fill.{filled, tabulate}
use Rattle.binomials.specs.Binomials.{binomial_table}
use Rattle.binomials.proofs.table.Goals as goal

pub returns : goal.returns
unfolding binomial_table filled tabulate binomial factorial
returns c = refl

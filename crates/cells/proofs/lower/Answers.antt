-- The test is that of the definition.
use mathlib.Core.Path.{sym}
use native.Mathlib.Omega.{arith}
use borrow.Author.Tests.{ltb-false, ltb-true}
use Rattle.spline.proofs.Lowering.{above-lowers, below_stays}
use Rattle.cells.proofs.lower.Goals as goal

pub returns-then-p-u : goal.returns-then-p-u
returns-then-p-u c = sym (above-lowers _ _ (omega (arith, ltb-true)))

pub returns-else-p-u : goal.returns-else-p-u
returns-else-p-u c = sym (below_stays _ _ (omega (arith, ltb-false)))

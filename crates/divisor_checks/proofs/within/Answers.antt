-- Up to degree 9 the largest divisor says it, past it the product itself.
use mathlib.Core.Path.{sym}
use native.Mathlib.Omega.{arith}
use Rattle.divisor_checks.proofs.within.Goals as goal

pub returns-then-m-le9 : goal.returns-then-m-le9
returns-then-m-le9 c = sym (c.requires.5.up_to (omega arith) c.args.divisor c.requires.2)

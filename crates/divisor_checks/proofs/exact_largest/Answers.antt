-- The largest divisor of each degree, by a computed test of it and the next one.
use mathlib.Core.Path.{refl}
use native.Mathlib.Omega.{arith}
use Rattle.sums.specs.Coefficient.{factorial}
use Rattle.sums.specs.Search.{all_to}
use Rattle.divisor_checks.proofs.Largest.{IsLargest, at-degree, at_low, from-nine}
use Rattle.divisor_checks.specs.Divisor.{limit}
use Rattle.divisor_checks.proofs.exact_largest.Goals as goal

pub returns-in-0-to-3 : goal.returns-in-0-to-3
unfolding IsLargest all_to factorial
returns-in-0-to-3 c = at_low limit 4 c.args.m refl (omega arith)

pub returns-in-4 : goal.returns-in-4
unfolding IsLargest factorial
returns-in-4 c = at-degree limit 4 1850 c.args.m refl c.in-4.is

pub returns-in-5 : goal.returns-in-5
unfolding IsLargest factorial
returns-in-5 c = at-degree limit 5 297 c.args.m refl c.in-5.is

pub returns-in-6 : goal.returns-in-6
unfolding IsLargest factorial
returns-in-6 c = at-degree limit 6 85 c.args.m refl c.in-6.is

pub returns-in-7 : goal.returns-in-7
unfolding IsLargest factorial
returns-in-7 c = at-degree limit 7 34 c.args.m refl c.in-7.is

pub returns-in-8 : goal.returns-in-8
unfolding IsLargest factorial
returns-in-8 c = at-degree limit 8 17 c.args.m refl c.in-8.is

pub returns-in_default : goal.returns-in_default
unfolding IsLargest factorial
returns-in_default c = from-nine limit 9 c.args.m refl (omega arith)

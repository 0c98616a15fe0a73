-- The largest divisor of each degree, by a computed test of it and the next one.
use mathlib.Core.Path.{refl}
use native.Mathlib.Omega.{arith}
use Rattle.sums.specs.Coefficient.{factorial}
use Rattle.sums.specs.Search.{all_to}
use Rattle.divisor_checks.proofs.Largest.{IsLargest, at-degree, at_low, from-nine}
use Rattle.divisor_checks.specs.Divisor.{live_limit}
use Rattle.divisor_checks.proofs.live_largest.Goals as goal

pub returns-in-0-to-2 : goal.returns-in-0-to-2
unfolding IsLargest all_to factorial
returns-in-0-to-2 c = at_low live_limit 3 c.args.m refl (omega arith)

pub returns-in-3 : goal.returns-in-3
unfolding IsLargest factorial
returns-in-3 c = at-degree live_limit 3 2840 c.args.m refl c.in-3.is

pub returns-in-4 : goal.returns-in-4
unfolding IsLargest factorial
returns-in-4 c = at-degree live_limit 4 275 c.args.m refl c.in-4.is

pub returns-in-5 : goal.returns-in-5
unfolding IsLargest factorial
returns-in-5 c = at-degree live_limit 5 64 c.args.m refl c.in-5.is

pub returns-in-6 : goal.returns-in-6
unfolding IsLargest factorial
returns-in-6 c = at-degree live_limit 6 23 c.args.m refl c.in-6.is

pub returns-in-7 : goal.returns-in-7
unfolding IsLargest factorial
returns-in-7 c = at-degree live_limit 7 11 c.args.m refl c.in-7.is

pub returns-in-8 : goal.returns-in-8
unfolding IsLargest factorial
returns-in-8 c = at-degree live_limit 8 6 c.args.m refl c.in-8.is

pub returns-in_default : goal.returns-in_default
unfolding IsLargest factorial
returns-in_default c = from-nine live_limit 4 c.args.m refl (omega arith)

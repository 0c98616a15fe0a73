-- Before the factor i the product is that of the factors below it, and not too large.
use mathlib.Core.Path.{◌≡◌}
use Prim.Native.Nat.{◌+◌, ◌-◌, ◌≤◌}
use Rattle.divisor_checks.specs.Divisor.{scale}
use Rattle.divisor_checks.proofs.scale_allowed.Given as goal

abbrev pub invariant-loop-i : goal.invariant-loop-i
invariant-loop-i l = record {
  within : l.i ≤ l.m + 1;
  product : l.product ≡ scale (l.i - 1) l.divisor;
  small : l.product ≤ l.most;
}

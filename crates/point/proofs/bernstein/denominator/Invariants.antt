-- Before the factor i the product is (i − 1)!×D^(i − 1).
use mathlib.Core.Path.{◌≡◌}
use Prim.Native.Nat.{◌+◌, ◌-◌, ◌≤◌}
use Rattle.divisor_checks.specs.Divisor.{scale}
use Rattle.point.proofs.bernstein.denominator.Given as goal

abbrev pub invariant-loop-i : goal.invariant-loop-i
invariant-loop-i l = (l.i ≤ l.m + 1) × (l.product ≡ scale (l.i - 1) l.d)

-- After i turns the table holds the powers 0 to i, and ones behind.
use mathlib.Core.Path.{◌≡◌}
use Prim.Native.Nat.{◌+◌}
use Rattle.sums.specs.Fill.{filled}
use Rattle.floats.specs.Powers.{float_power, ones}
use Rattle.floats.proofs.powers.Given as goal

abbrev pub invariant-loop-i : goal.invariant-loop-i
invariant-loop-i l = l.p ≡ filled (float_power l.base) (l.i + 1) ones

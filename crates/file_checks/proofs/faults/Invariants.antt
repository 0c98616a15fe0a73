-- Where no bit is set so far, no entry before the i-th has a fault.
use mathlib.Core.Path.{◌≡◌}
use Prim.Native.Nat.{◌<◌, ℕ}
use Rattle.file_checks.specs.Inner.Sound.{Sound}
use Rattle.file_checks.proofs.faults.Given as goal

abbrev pub invariant-loop-i : goal.invariant-loop-i
invariant-loop-i l = l.all ≡ 0 → (j : ℕ) → j < l.i → Sound l.file j

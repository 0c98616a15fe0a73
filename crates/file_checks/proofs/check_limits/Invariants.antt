-- After i turns check 8 stands for the first i entries.
use mathlib.Core.Path.{◌≡◌}
use Prim.Native.Nat.{◌≤◌}
use Rattle.file.specs.File.{uncertainty}
use Rattle.file_checks.specs.FileChecks.{limit_check}
use Rattle.file_checks.proofs.check_limits.Given as goal

abbrev pub invariant-loop-i : goal.invariant-loop-i
invariant-loop-i l = (l.i ≤ l.n) × (l.limit ≡ limit_check l.i (uncertainty l.file))

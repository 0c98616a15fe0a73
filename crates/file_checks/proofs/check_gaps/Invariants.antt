-- After i turns check 16 stands for the first i entries.
use mathlib.Core.Path.{◌≡◌}
use Prim.Native.Nat.{◌≤◌}
use Rattle.file.specs.File.{correction, uncertainty}
use Rattle.file_checks.specs.FileChecks.{gap_check}
use Rattle.file_checks.proofs.check_gaps.Given as goal

abbrev pub invariant-loop-i : goal.invariant-loop-i
invariant-loop-i l = (l.i ≤ l.n) × (l.gaps ≡ gap_check l.i (correction l.file) (uncertainty l.file))

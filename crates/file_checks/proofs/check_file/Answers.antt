-- The layout's checks come first, since they say where the others read. Where the joined faults are 0, 8 and
-- 16 pass.
use mathlib.Core.Path.{◌∙◌, sym}
use native.Mathlib.Omega.{arith}
use Rattle.file_checks.proofs.Accepted.{accepted-file, layout-accepted}
use Rattle.file_checks.proofs.check_file.Goals as goal

pub overflow_cast-n : goal.overflow_cast-n
overflow_cast-n c =
    let passed = sym c.check_layout.ensures ∙ c.in_ok-check_layout.was in
    omega (arith, c.entries-n.ensures, (layout-accepted c.args.file.now passed).sizes.entries)

pub returns-then-faults-eq0 : goal.returns-then-faults-eq0
returns-then-faults-eq0 c =
    let passed = sym c.check_layout.ensures ∙ c.in_ok-check_layout.was in
    let sound = c.faults.ensures c.if-faults-eq0.true in
    sym (accepted-file c.args.file.now passed (λ i l. sound i (rw c.entries-n.ensures l)))

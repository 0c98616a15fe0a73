-- After i turns check 16 stands for the first i entries.
use mathlib.Core.Bool.{Bool}
use mathlib.Core.List.{List}
use mathlib.Core.Path.{◌∙◌, ◌≡◌}
use Prim.Native.Nat.{ℕ}
use native.Mathlib.Nat.{le_antisymm}
use native.Mathlib.Omega.{arith}
use lib.IntN.{ℤ}
use Rattle.unit.specs.Gaps.{uncertain_gap}
use Rattle.file.proofs.Counted.{behind-count}
use Rattle.file.proofs.Twos.{read_back}
use Rattle.file.specs.File.{correction, uncertainty}
use Rattle.checks.specs.declared.Refusal.TheVariants.{UncertainGap}
use Rattle.file_checks.proofs.OneMore.{none_yet, one_more}
use Rattle.file_checks.proofs.check_gaps.Goals as goal

-- the entries of which 16 speaks
abbrev uncertain : List ℕ → ℕ → Bool
uncertain file i = uncertain_gap (correction file i) (uncertainty file i)

uncertain-by : (file : List ℕ) (i : ℕ) (c : ℤ) (u : ℕ) → c ≡ correction file i → u ≡ uncertainty file i
    → uncertain_gap c u ≡ uncertain file i
uncertain-by file i c u e f = rw (e, f)

pub loop-i-init : goal.loop-i-init
loop-i-init c = (omega arith, none_yet UncertainGap _)

pub loop-i-preserved : goal.loop-i-preserved
loop-i-preserved c =
    let l = c.loop-i in
    let file = c.args.file.now in
    let read-u = c.uncertainty_at-uncertainty.ensures ∙ behind-count file c.args.n l.i c.requires in
    let read = read_back c.correction_at.type_inv c.correction_at.ensures in (
      omega arith,
      c.and-gaps.ensures
          ∙ one_more UncertainGap l.i (uncertain file) _ _ _
          (uncertain-by file l.i _ _ read read-u) l.invariant.1 c.check_gap.ensures,
    )

pub returns : goal.returns
returns c =
    let l = c.loop-i in
    rw (le_antisymm l.invariant.0 c.loop-i-test.false) at l.invariant.1

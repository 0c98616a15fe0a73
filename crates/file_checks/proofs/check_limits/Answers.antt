-- After i turns check 8 stands for the first i entries.
use mathlib.Core.Bool.{Bool}
use mathlib.Core.List.{List}
use mathlib.Core.Path.{◌∙◌, ap}
use Prim.Native.Nat.{ℕ}
use native.Mathlib.Nat.{le_antisymm}
use native.Mathlib.Omega.{arith}
use lib.Dec.{ltb}
use Rattle.file.proofs.Counted.{behind-count}
use Rattle.file.specs.File.{uncertainty}
use Rattle.checks.specs.declared.Refusal.TheVariants.{LargeUncertainty}
use Rattle.file_checks.proofs.OneMore.{none_yet, one_more}
use Rattle.file_checks.proofs.check_limits.Goals as goal

-- the entries of which 8 speaks
abbrev large : List ℕ → ℕ → Bool
large file i = ltb 32767 (uncertainty file i)

pub loop-i-init : goal.loop-i-init
loop-i-init c = (omega arith, none_yet LargeUncertainty _)

pub loop-i-preserved : goal.loop-i-preserved
loop-i-preserved c =
    let l = c.loop-i in
    let read = c.uncertainty_at.ensures ∙ behind-count c.args.file.now c.args.n l.i c.requires in (
      omega arith,
      c.and-limit.ensures
          ∙ one_more LargeUncertainty l.i (large c.args.file.now) _ _ _ (ap (ltb 32767) read) l.invariant.1
          c.check_limit.ensures,
    )

pub returns : goal.returns
returns c =
    let l = c.loop-i in
    rw (le_antisymm l.invariant.0 c.loop-i-test.false) at l.invariant.1

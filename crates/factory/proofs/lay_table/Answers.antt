-- After i turns the first i numbers of the slice are those of the defined net, since the table's are.
use mathlib.Core.List.{List}
use mathlib.Core.Path.{◌∙◌, ◌≡◌, ap, refl, sym}
use Prim.Native.Nat.{◌+◌, ◌<◌, ℕ}
use native.Mathlib.Omega.{arith}
use lib.ListN.{get_or, length, set}
use Rattle.sums.proofs.Fill.{fill_none, fill-store}
use Rattle.sums.specs.Fill.{filled}
use Rattle.factory_net.proofs.Numbers.{numbers}
use Rattle.factory_net.proofs.TableRule.{Right, right_by}
use Rattle.factory.proofs.lay_table.Goals as goal
use Rattle.factory.proofs.lay_table.Invariants.{number}

-- a turn stores the next number
stored : (table net net₀ : List ℕ) (i : ℕ) → Right table → net ≡ filled number i net₀
    → i < 2197 → i < length net₀ → set net i (get_or table i 0) ≡ filled number (i + 1) net₀
stored table net net₀ i right before in_table room =
    ap (λ (s : List ℕ). set s i (get_or table i 0)) before
    ∙ fill-store number i net₀ _ room (right.rule i in_table)

pub loop-i-init : goal.loop-i-init
unfolding numbers
loop-i-init c =
    -- the code's table has the numbers of which the rule was computed
    (sym (fill_none number _), right_by _ refl)

pub loop-i-preserved : goal.loop-i-preserved
loop-i-preserved c =
    let l = c.loop-i in
    (stored _ _ _ _ l.invariant.1 l.invariant.0 (omega arith) (omega arith), l.invariant.1)

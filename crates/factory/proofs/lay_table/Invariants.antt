-- After i turns the first i numbers of the slice are those of the defined net, since the table's are.
use mathlib.Core.Path.{◌≡◌}
use Prim.Native.Nat.{ℕ}
use Rattle.sums.specs.Fill.{filled}
use Rattle.spline.specs.Box.{defined_number}
use Rattle.factory_net.proofs.TableRule.{Right}
use Rattle.factory.specs.Factory.{factory_shape}
use Rattle.factory.proofs.lay_table.Given as goal

-- the defined net's number at an index
abbrev pub number : ℕ → ℕ
number = defined_number factory_shape

abbrev pub invariant-loop-i : goal.invariant-loop-i
invariant-loop-i l = (l.net ≡ filled number l.i l.initial.net) × Right l.numbers

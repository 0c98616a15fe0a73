-- No byte before byte i is bad.
use mathlib.Core.Bool.{Bool}
use mathlib.Core.List.{List}
use mathlib.Core.Path.{◌≡◌}
use Prim.Native.Nat.{ℕ}
use lib.ListN.{get_or}
use Rattle.sums.specs.Search.{first, nowhere}
use Rattle.orders.specs.Order.{bad_byte}
use Rattle.orders.proofs.check_bytes.Given as goal

abbrev pub bad : List ℕ → ℕ → Bool
bad order i = bad_byte (get_or order i 0)

abbrev pub invariant-loop-i : goal.invariant-loop-i
invariant-loop-i l = first l.i (bad l.order) ≡ nowhere

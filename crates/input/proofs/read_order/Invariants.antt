-- Before byte i the numbers of those ahead of it are stored.
use mathlib.Core.List.{List}
use mathlib.Core.Path.{◌≡◌}
use Prim.Native.Nat.{ℕ}
use lib.ListN.{get_or}
use Rattle.sums.specs.Fill.{filled}
use Rattle.input.specs.Order.{digit_number}
use Rattle.input.proofs.read_order.Given as goal

abbrev pub number : List ℕ → ℕ → ℕ
number typed i = digit_number (get_or typed i 0)

abbrev pub invariant-loop-i : goal.invariant-loop-i
invariant-loop-i l = l.order ≡ filled (number l.typed) l.i l.initial.order

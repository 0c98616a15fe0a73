-- A number more is stored.
use mathlib.Core.List.{List}
use mathlib.Core.Path.{◌∙◌, ap, sym}
use Prim.Native.Nat.{◌<◌, ℕ}
use native.Mathlib.Omega.{arith}
use lib.ListN.{length-take, set}
use Rattle.std.proofs.lemmas.List.{get_or-take}
use Rattle.sums.proofs.Fill.{fill_none, fill-store}
use Rattle.input.proofs.read_order.Goals as goal
use Rattle.input.specs.Order.{digit_number}
use Rattle.input.proofs.read_order.Invariants.{number}

pub loop-i-init : goal.loop-i-init
loop-i-init c = sym (fill_none (number c.args.typed.now) _)

pub loop-i-preserved : goal.loop-i-preserved
loop-i-preserved c =
    let l = c.loop-i in
    let s = c.args.typed.now in
    let n = c.min-n.result in
    let inside : l.i < n = omega (arith, length-take n s) in
    ap (λ (o : List ℕ). set o l.i c.digit_number.result) l.invariant
    ∙ fill-store (number s) l.i _ _ (omega arith)
    (c.digit_number.ensures ∙ ap digit_number (get_or-take n s l.i 0 inside))

-- The counts are those of the bytes so far.
use mathlib.Core.Path.{◌∙◌, ◌≡◌, ap, subst, sym}
use Prim.Native.Nat.{◌+◌, ◌≤◌, ℕ}
use native.Mathlib.Omega.{arith}
use lib.ListN.{get_or, length, take}
use lib.Seq.{take-length}
use Rattle.spline.specs.Build.{direction}
use Rattle.spline.specs.Multiplicities.{Multiplicities, more, order_multiplicities}
use Rattle.spline.specs.Inner.Limits.{Limits}
use Rattle.shape.specs.Shape.{counted}
use Rattle.orders.proofs.Orders.{limits-le, multiplicities-next, order-limits, prefix-limits}
use Rattle.orders.proofs.counts_of.Goals as goal

pub repeated-c-requires : goal.repeated-c-requires
repeated-c-requires c =
    let l = c.loop-d in
    let few : 4 + l.d-index ≤ 12 = omega (arith, c.requires.short) in
    prefix-limits c.args.order.now l.d-index 12 (counted l.c) l.invariant (omega arith) few

pub loop-d-preserved : goal.loop-d-preserved
loop-d-preserved c =
    let o = c.args.order.now in
    let i = c.loop-d.d-index in
    c.repeated-c.ensures
    ∙ ap (more (direction (get_or o i 0))) c.loop-d.invariant
    ∙ sym (multiplicities-next o i (omega arith))

pub returns : goal.returns
returns c =
    let o = c.args.order.now in
    let l = c.loop-d in
    let end : l.d-index ≡ length o = omega arith in
    let few : 4 + length o ≤ 12 = omega (arith, c.requires.short) in
    let counts : counted l.c ≡ order_multiplicities o
    = l.invariant ∙ ap order_multiplicities (ap (λ (k : ℕ). take k o) end ∙ take-length o) in
    (counts, subst (λ (v : Multiplicities). Limits v 12) (sym counts) (limits-le (order-limits o) few))

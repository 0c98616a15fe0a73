-- After the bytes before the index, those from it on are left to take up, and lead from here to where all do.
use mathlib.Core.List.{List, []}
use mathlib.Core.Path.{◌∙◌, ◌≡◌, ap, sym}
use Prim.Native.Nat.{◌<◌, ℕ}
use native.Mathlib.Omega.{arith}
use lib.ListN.{get_or, length, take}
use lib.Seq.{take-length}
use Rattle.spline.specs.Build.{direction}
use Rattle.spline.specs.Multiplicities.{more, order_multiplicities}
use Rattle.shape.specs.Shape.{counted}
use Rattle.orders.proofs.Orders.{multiplicities-next, prefix-limits}
use Rattle.builds.proofs.Repeats.{none_left, one_less}
use Rattle.builds.specs.Repeat.{Slices, repeats, slices, taken_up}
use Rattle.net.proofs.repeat.run.Goals as goal

pub take_up-c-requires : goal.take_up-c-requires
take_up-c-requires c =
    let l = c.loop-d in
    prefix-limits c.args.order.now l.d-index 11 (counted l.c) l.invariant.0 (omega arith)
    (omega (arith, c.requires.0.short))

pub loop-d-preserved : goal.loop-d-preserved
loop-d-preserved c =
    let o = c.args.order.now in
    let l = c.loop-d in
    let byte : l.d-index < length o = omega arith in
    let f = c.take_up-c in (
      f.ensures.counts
          ∙ ap (more (direction (get_or o l.d-index 0))) l.invariant.0
          ∙ sym (multiplicities-next o l.d-index byte),
      one_less o l.d-index byte (counted l.c) (counted f.result) l.net _ l.work _ f.ensures.counts
          f.ensures.work f.ensures.net
          ∙ l.invariant.1,
    )

pub returns : goal.returns
unfolding taken_up
returns c =
    let a = c.args in
    let o = a.order.now in
    let work = a.work.now in
    let l = c.loop-d in
    let end : l.d-index ≡ length o = omega arith in
    let all : slices l.net l.work ≡ taken_up o a.net.now work
    = sym (none_left o l.d-index (counted l.c) _ end)
    ∙ l.invariant.1
    ∙ ap (λ (n : List ℕ). repeats o (order_multiplicities []) (slices n work)) c.lay_simple.ensures in
    let bytes = ap (λ (k : ℕ). take k o) end ∙ take-length o in record {
      counts = l.invariant.0 ∙ ap order_multiplicities bytes;
      net = ap (λ (s : Slices). s.net) all;
      work = ap (λ (s : Slices). s.work) all;
    }

-- The simple net is 0 but at the index 13, that of (1, 1, 1), as is computed place by place.
use mathlib.Core.List.{List, [], ◌++◌}
use mathlib.Core.Path.{◌∙◌, ◌≡◌, ap, refl}
use Prim.Native.Nat.{ℕ}
use native.Mathlib.Omega.{arith}
use lib.ListN.{drop, length, length-take, replicate, set, take}
use Rattle.std.proofs.lemmas.List.{set-append_left}
use Rattle.sums.specs.Fill.{filled, tabulate}
use Rattle.spline.specs.Build.{built, simple}
use Rattle.orders.specs.Order.{order_number}
use Rattle.net.proofs.repeat.lay_simple.Goals as goal

computed : set (replicate 27 0) 13 1 ≡ tabulate (order_number []) 27
unfolding built simple tabulate
computed = refl

pub returns : goal.returns
unfolding filled
returns c =
    let net = c.args.net.now in
    let n : length (take 27 net) ≡ 27 = omega (arith, length-take 27 net) in
    let zeros : c.fill.new.self ≡ replicate 27 0
    = c.fill.ensures.after (λ y h. h) ∙ ap (λ (k : ℕ). replicate k 0) n in
    ap (λ (s : List ℕ). set (s ++ drop 27 net) 13 1) zeros
    ∙ set-append_left (replicate 27 0) (drop 27 net) 13 1 (omega arith)
    ∙ ap (λ (s : List ℕ). s ++ drop 27 net) computed

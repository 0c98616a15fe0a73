-- Orders with as many of each byte build one net, the defined one.
use mathlib.Core.Bool.{true}
use mathlib.Core.List.{List, ◌++◌, map}
use mathlib.Core.Path.{◌∙◌, ◌≡◌, ap, subst}
use Prim.Native.Nat.{◌≤◌, ℕ}
use native.Mathlib.Omega.{arith}
use lib.ListN.{drop, length, take}
use lib.Seq.{take_at}
use Rattle.spline.proofs.Box.{length-net_list}
use Rattle.spline.proofs.Orders.{order-defined}
use Rattle.spline.specs.Box.{net_list, places}
use Rattle.spline.specs.Build.{direction, order_net}
use Rattle.spline.specs.Multiplicities.{Multiplicities, order_multiplicities}
use Rattle.spline.specs.Place.{Axis, Net}
use Rattle.allowed.proofs.Limits.{limits-allowed}
use Rattle.unit.specs.Unit.{holds_net, with_net}
use Rattle.unit.specs.declared.Unit.{Unit}
use Rattle.claims_rule.specs.Rule.{HoldsDefined}
use Rattle.claims_nets.proofs.Bytes.{order-passes, same_good, same-multiplicities}
use Rattle.claims_nets.specs.Nets.{BuildsDefined, Orders}
use Rattle.orders.proofs.Accepted.{BuildAccepted, build-passes, order-accepted}
use Rattle.orders.proofs.Orders.{limits-le, order-limits}
use Rattle.builds.specs.Build.{build_answer, build_net}
use Rattle.orders.specs.Inner.GoodOrder.{GoodOrder}
use Rattle.orders.specs.Order.{build_checks, order_places, order_width}
use Rattle.checks.specs.Checks.{Checked, no_refusal, passed_or}
use Rattle.std.specs.Prelude.{Err, Ok}

-- a slice whose box was filled with a net begins with its list
pub laid : (W : Axis → ℕ) (C : Net) (net : List ℕ)
    → take (places W) (net_list W C ++ drop (places W) net) ≡ net_list W C
laid W C net = take_at (net_list W C) (drop (places W) net) (places W) (length-net_list W C)

-- a build that passed its checks leaves what the order builds in the first places of the net slice
pub built-list : (order net : List ℕ) (work_length : ℕ)
    → build_checks order (length net) work_length ≡ no_refusal
    → take (places (order_width order)) (build_net order net work_length)
    ≡ net_list (order_width order) (order_net order)
unfolding build_net
built-list order net work_length h =
    let w = order_width order in
    let list = net_list w (order_net order) in
    ap (λ (c : Checked). take (places w) (passed_or c (list ++ drop (places w) net) (λ _. net))) h
    ∙ laid w (order_net order) net

-- which is the defined net of the order's multiplicities
pub built-holds : (order net : List ℕ) (work_length : ℕ)
    → build_checks order (length net) work_length ≡ no_refusal
    → HoldsDefined (order_multiplicities order) (build_net order net work_length)
built-holds order net work_length h =
    built-list order net work_length h
    ∙ ap (net_list (order_width order)) (order-defined (map direction order))

-- a unit with the net of a good order has a net
order-held : (order : List ℕ) (u : Unit) → GoodOrder order
    → holds_net (with_net u (order_multiplicities order)) ≡ true
unfolding holds_net
order-held order u good =
    limits-allowed (order_multiplicities order)
    (limits-le (order-limits order) (omega (arith, good.short)))

-- a build of a good order that is lent enough room
builds : (u : Unit) (order net : List ℕ) (work_length : ℕ) → GoodOrder order
    → order_places order ≤ length net → order_places order ≤ work_length
    → BuildsDefined (order_multiplicities order) u order net work_length
unfolding build_answer
builds u order net work_length good n w =
    let r : BuildAccepted order (length net) work_length
    = record { good = good; net-room = n; work-room = w } in
    let h = build-passes order (length net) work_length r in
    record {
      answered = ap (λ (c : Checked). passed_or c (Ok (with_net u (order_multiplicities order))) Err) h;
      has_net = order-held order u good;
      holds = built-holds order net work_length h;
    }

pub orders : Orders
orders order₁ order₂ passes same u₁ u₂ net₁ net₂ work_length₁ work_length₂ n₁ w₁ n₂ w₂ =
    let good₁ = order-accepted order₁ passes in
    let good₂ = same_good order₁ order₂ good₁ same in (
      order-passes order₂ good₂,
      builds u₁ order₁ net₁ work_length₁ good₁ n₁ w₁,
      subst (λ (v : Multiplicities). BuildsDefined v u₂ order₂ net₂ work_length₂)
          (same-multiplicities order₁ order₂ good₁ same)
          (builds u₂ order₂ net₂ work_length₂ good₂ n₂ w₂),
    )

-- A build that passed its checks.
use mathlib.Core.Bool.{◌||◌}
use mathlib.Core.List.{List}
use mathlib.Core.Path.{◌≡◌}
use Prim.Native.Nat.{◌≤◌, ℕ}
use borrow.Author.Tests.{le-ltb, ltb-false}
use lib.Dec.{ltb}
use lib.ListN.{get_or, length}
use Rattle.sums.specs.Search.{Found, first}
use Rattle.checks.proofs.Checks.{at-passed, if-passed, or-false, then-passed}
use Rattle.orders.specs.Inner.GoodOrder.{GoodOrder}
use Rattle.orders.specs.Order.{bad_byte, build_checks, order_checks, order_places}
use Rattle.checks.specs.Checks.{no_refusal, refuse_at}
use Rattle.checks.specs.declared.Refusal.TheVariants.{BadByte, LongOrder, NetRoom}

-- an order that passes its checks is short and has good bytes
pub order-accepted : (order : List ℕ) → order_checks order ≡ no_refusal → GoodOrder order
unfolding order_checks
order-accepted order h =
    let bad : Found = first (length order) (λ i. bad_byte (get_or order i 0)) in
    let e = if-passed LongOrder (ltb 8 (length order)) (refuse_at BadByte bad no_refusal) h in
    record { short = ltb-false 8 (length order) e.0; good = (at-passed BadByte bad no_refusal e.1).0 }

-- what the checks of a build say of an order and of the lengths of its two slices
pub record BuildAccepted (order : List ℕ) (net work : ℕ) : Type 0 where
  pub good : GoodOrder order
  pub net-room : order_places order ≤ net
  pub work-room : order_places order ≤ work

-- where they pass, this holds
pub build-accepted : (order : List ℕ) (net work : ℕ) → build_checks order net work ≡ no_refusal
    → BuildAccepted order net work
unfolding build_checks
build-accepted order net work h =
    let e = then-passed (order_checks order) _ h in
    let n = order_places order in
    let room = if-passed NetRoom (ltb net n || ltb work n) no_refusal e.1 in
    let f = or-false (ltb net n) (ltb work n) room.0 in
    record {
      good = order-accepted order e.0;
      net-room = ltb-false net n f.0;
      work-room = ltb-false work n f.1;
    }

-- and where it holds, they pass
pub build-passes : (order : List ℕ) (net work : ℕ) → BuildAccepted order net work
    → build_checks order net work ≡ no_refusal
unfolding build_checks order_checks
build-passes order net work h =
    let n = order_places order in
    let net-room = le-ltb net n h.net-room in
    let work-room = le-ltb work n h.work-room in
    simp (le-ltb 8 (length order) h.good.short, h.good.good, net-room, work-room)

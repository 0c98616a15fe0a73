-- A refused build returns before it writes; one that passed its checks runs the order.
use mathlib.Core.List.{List}
use mathlib.Core.Path.{◌∙◌, ◌≡◌, ap, sym}
use Prim.Native.Nat.{ℕ}
use native.Mathlib.Nat.{le_trans}
use lib.ListN.{length}
use Rattle.std.specs.Prelude.{Ok}
use Rattle.checks.specs.Checks.{no_refusal}
use Rattle.unit.specs.Unit.{with_net}
use Rattle.orders.proofs.Accepted.{BuildAccepted, build-accepted}
use Rattle.builds.proofs.OrderNets.{prefix-places}
use Rattle.builds.proofs.Outcomes.{build-passed, build-refused}
use Rattle.builds.proofs.Repeats.{all-taken, taken-length}
use Rattle.orders.specs.Order.{build_checks}
use Rattle.net.proofs.build.Goals as goal
use Rattle.net.proofs.build.Goals.{In_ok-check_build}

-- the build has passed its checks
module _ (c : In_ok-check_build) where
  abbrev order : List ℕ
  order = c.args.order.now

  abbrev net-length : ℕ
  net-length = length c.args.net.now

  abbrev work-length : ℕ
  work-length = length c.args.work.now

  passed : build_checks order net-length work-length ≡ no_refusal
  passed = sym c.check_build.ensures ∙ c.in_ok-check_build.was

  taken : BuildAccepted order net-length work-length
  taken = build-accepted order net-length work-length passed

pub returns-in_err-check_build-clause-net : goal.returns-in_err-check_build-clause-net
returns-in_err-check_build-clause-net c =
    let a = c.args in
    let stopped = sym c.check_build.ensures ∙ c.in_err-check_build.was in
    sym (build-refused a.unit a.order.now a.net.now a.work.now _ stopped).1

pub returns-in_err-check_build-clause-work : goal.returns-in_err-check_build-clause-work
returns-in_err-check_build-clause-work c =
    let a = c.args in
    let stopped = sym c.check_build.ensures ∙ c.in_err-check_build.was in
    (build-refused a.unit a.order.now a.net.now a.work.now _ stopped).2

pub run-c-requires : goal.run-c-requires
run-c-requires c =
    let r = taken (goal.at.run-c-requires c).In_ok-check_build in
    (r.good, le_trans (prefix-places c.args.order.now 0) r.net-room)

pub returns : goal.returns
returns c =
    let p = (goal.at.returns c).In_ok-check_build in
    let f = c.run-c in
    let unit = c.with_net.ensures ∙ ap (with_net c.args.unit) f.ensures.counts in
    let net = c.args.net.now in
    let work = c.args.work.now in
    let o = c.args.order.now in
    let t = taken p in
    let made = build-passed c.args.unit o net work (passed p) in record {
      answer = ap Ok unit ∙ sym made.0;
      net = f.ensures.net ∙ all-taken o t.good net t.net-room work t.work-room ∙ sym made.1;
      work = made.2 _ (ap length f.ensures.work ∙ taken-length o net work);
    }

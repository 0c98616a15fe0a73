-- The order that defines the net passes a build's checks, and what it builds is the defined net.
use mathlib.Core.List.{List}
use mathlib.Core.Path.{◌∙◌, ◌≡◌, sym}
use Prim.Native.Nat.{◌≤◌, ℕ}
use native.Mathlib.Omega.{arith}
use lib.ListN.{length}
use Rattle.sums.specs.Fill.{filled, tabulate}
use Rattle.spline.proofs.Multiplicities.{Positive, limits-positive}
use Rattle.spline.specs.Box.{defined_number, net_list, places, width}
use Rattle.spline.specs.Inner.Limits.{Limits}
use Rattle.spline.specs.Multiplicities.{Multiplicities}
use Rattle.shape.specs.Shape.{counted}
use Rattle.orders.proofs.Accepted.{build-passes}
use Rattle.builds.specs.Build.{build_net, BuildWork}
use Rattle.orders.specs.Order.{build_checks, order_number, order_places}
use Rattle.inspection.proofs.DefinedBytes.{order, order-filled, order-good, order-length}
use Rattle.inspection.proofs.DefinedBytes.{order-places, repeat_count}
use Rattle.defined_order.specs.Bytes.{defined_byte}
use Rattle.inspection.proofs.lay_defined.Goals as goal
use Rattle.checks.specs.Checks.{no_refusal}

-- the defined order is made, as the first of these bytes
module _ (v : Multiplicities) (l : Limits v 12) (bytes : List ℕ)
    (is : bytes ≡ tabulate (defined_byte v) 8) where
  positive : Positive v
  positive = limits-positive l

  few : repeat_count v ≤ 8
  few = omega (arith, l.sum)

  abbrev made : List ℕ
  made = order v positive few bytes is

  made-length : repeat_count v ≡ length made
  made-length = sym (order-length v positive few bytes is)

  passes : (net-length work-length : ℕ) → places (width v) ≤ net-length → places (width v) ≤ work-length
      → build_checks made net-length work-length ≡ no_refusal
  passes net-length work-length net work =
      let e = order-places v positive few bytes is in
      build-passes made _ _ (record {
        good = order-good v positive few bytes is;
        net-room = omega (arith, e, net);
        work-room = omega (arith, e, work);
      })

  built : (defined : List ℕ) → filled (order_number made) (order_places made) defined
      ≡ filled (defined_number v) (places (width v)) defined
  built defined = order-filled v positive few bytes is defined

pub slice_bounds-build-end : goal.slice_bounds-build-end
slice_bounds-build-end c =
    made-length (counted c.args.c) c.requires.limits c.bytes_of-order.result c.bytes_of-order.ensures

pub returns : goal.returns
unfolding build_net BuildWork filled net_list
returns c =
    let a = c.args in
    let v = counted a.c in
    let b = c.bytes_of-order in
    let rooms = c.requires.c_in_bounds in
    let passed = passes v c.requires.limits b.result b.ensures (length a.defined.now) (length a.work.now)
    rooms.0 rooms.1 in record {
      defined_after = rw passed at c.build.ensures.net
          ∙ built v c.requires.limits b.result b.ensures a.defined.now;
      work_len_unchanged = rw passed at c.build.ensures.work;
    }

-- A call that sets a net keeps the block half of the unit: its answer is the unit with the net.
use mathlib.Core.Path.{◌≡◌, refl}
use Rattle.spline.specs.Multiplicities.{Multiplicities, order_multiplicities}
use Rattle.unit.specs.Unit.{with_net}
use Rattle.unit.specs.declared.Unit.{Unit}
use Rattle.builds.specs.Build.{build_answer}
use Rattle.orders.specs.Order.{build_checks}
use Rattle.inspection.specs.Inspect.{inspect_answer, inspect_checks}
use Rattle.factory.specs.Factory.{factory_answer, factory_checks, factory_shape}
use Rattle.claims_nets.specs.Nets.{BlockKept, SameBlock}
use Rattle.checks.proofs.Checks.{made-by}

same_block : (u after : Unit) (v : Multiplicities) → after ≡ with_net u v → SameBlock u after
same_block u after v e = rw e (record {
  flag = refl;
  size1 = refl;
  size2 = refl;
  size3 = refl;
  origin1 = refl;
  origin2 = refl;
  origin3 = refl;
})

pub block-kept : BlockKept
unfolding build_answer inspect_answer factory_answer
block-kept u after = (
  λ order net_length work_length h.
      same_block u after (order_multiplicities order)
      (made-by (build_checks order net_length work_length) _ h).1,
  λ v net defined_length work_length h.
      same_block u after v (made-by (inspect_checks v net defined_length work_length) _ h).1,
  λ net_length h. same_block u after factory_shape (made-by (factory_checks net_length) _ h).1,
)

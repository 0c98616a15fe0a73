-- Copies of the factory's net: what they answer and write, beside a build by the order 1, 3, 2 and an
-- inspection.
use mathlib.Core.Path.{◌∙◌, ap, refl, sym}
use native.Mathlib.Omega.{arith}
use lib.ListN.{drop, length}
use lib.Seq.{drop_at}
use Rattle.spline.proofs.Box.{length-net_list}
use Rattle.spline.specs.Box.{width}
use Rattle.spline.specs.Defined.{defined}
use Rattle.spline.specs.Multiplicities.{allowed}
use Rattle.unit.specs.Unit.{holds_net, with_net}
use Rattle.builds.specs.Build.{build_answer}
use Rattle.orders.specs.Order.{build_checks}
use Rattle.factory.proofs.Accepted.{factory-passes, factory-stops}
use Rattle.factory.specs.Factory.{factory_answer, factory_checks, factory_list, factory_net, factory_places}
use Rattle.factory.specs.Factory.{factory_shape}
use Rattle.claims_nets.proofs.Copied.{copied-holds, copied-net}
use Rattle.claims_nets.proofs.Inspections.{holds-passes}
use Rattle.claims_nets.proofs.Orders.{built-holds}
use Rattle.claims_nets.specs.Factory.{FactoryAsBuilt, FactoryCopies, FactoryInspected, FactoryShort}
use Rattle.claims_nets.specs.Factory.{factory_order}
use Rattle.checks.specs.Checks.{Checked, passed_or}
use Rattle.std.specs.Prelude.{Err, Ok}
use Rattle.checks.proofs.Checks.{made-by}

pub factory-copies : FactoryCopies
unfolding factory_answer holds_net allowed
factory-copies u net room =
    let h = factory-passes (length net) (omega arith) in (
      ap (λ (c : Checked). passed_or c (Ok (with_net u factory_shape)) Err) h,
      refl,
      copied-holds net h,
      ap (drop factory_places) (copied-net net h)
          ∙ drop_at factory_list (drop factory_places net) factory_places
          (length-net_list (width factory_shape) (defined factory_shape)),
    )

pub factory-short : FactoryShort
unfolding factory_answer factory_net
factory-short u net short = let e = factory-stops (length net) (omega arith) in (rw e refl, rw e refl)

pub factory-as-built : FactoryAsBuilt
unfolding factory_answer build_answer
factory-as-built u after₁ after₂ net₁ net₂ work_length copies builds =
    let c = made-by (factory_checks (length net₁)) (with_net u factory_shape) copies in
    let checks = build_checks factory_order (length net₂) work_length in
    let b = made-by checks (with_net u factory_shape) builds in (
      c.1 ∙ sym b.1,
      copied-holds net₁ c.0 ∙ sym (built-holds factory_order net₂ work_length b.0),
    )

pub factory-inspected : FactoryInspected
unfolding allowed
factory-inspected u net written defined_length work_length room room₁ room₂ = (
  λ h same.
      holds-passes u factory_shape net defined_length work_length refl room room₁ room₂
      (same ∙ copied-holds written h),
  λ build_work_length h same.
      holds-passes u factory_shape net defined_length work_length refl room room₁ room₂
      (same ∙ built-holds factory_order written build_work_length h),
)

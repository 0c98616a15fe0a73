-- A net that was built or passed is the defined one, and so the one to which the rule leads.
use mathlib.Core.List.{List, map}
use mathlib.Core.Path.{refl}
use Prim.Native.Nat.{ℕ}
use Rattle.spline.proofs.Box.{spread-list}
use Rattle.spline.proofs.Defined.{defined-low}
use Rattle.spline.proofs.Inspection.{defined-outside}
use Rattle.spline.proofs.Multiplicities.{Positive, limits-positive, order-positive}
use Rattle.spline.specs.Box.{spread, width}
use Rattle.spline.specs.Build.{direction}
use Rattle.spline.specs.Defined.{defined, defined_order}
use Rattle.spline.specs.Multiplicities.{Multiplicities, allowed}
use Rattle.allowed.proofs.Limits.{allowed-limits}
use Rattle.factory.specs.Factory.{factory_shape}
use Rattle.claims_rule.proofs.Rule.{one-net}
use Rattle.claims_rule.specs.Rule.{HoldsDefined}
use Rattle.claims_nets.proofs.Copied.{copied-holds}
use Rattle.claims_nets.proofs.Inspections.{passed-allowed, passed-holds}
use Rattle.claims_nets.proofs.Orders.{built-holds}
use Rattle.claims_nets.specs.Nets.{BuiltOrPassed, Held, built, copied, passed}

-- a net that was built or passed is the defined one of its multiplicities
pub holds_of : {v : Multiplicities} {s : List ℕ} → BuiltOrPassed v s → HoldsDefined v s
holds_of (built order net work_length h) = built-holds order net work_length h
holds_of (passed v net defined_length work_length h) = passed-holds v net defined_length work_length h
holds_of (copied net h) = copied-holds net h

positive_of : {v : Multiplicities} {s : List ℕ} → BuiltOrPassed v s → Positive v
unfolding allowed
positive_of (built order net work_length h) = order-positive (map direction order)
positive_of (passed v net defined_length work_length h) =
    limits-positive (allowed-limits v (passed-allowed v net defined_length work_length h))
positive_of (copied net h) = limits-positive (allowed-limits factory_shape refl)

pub held : Held
unfolding defined
held v s made =
    let outside = defined-outside v (positive_of made) in
    one-net (defined_order v) (spread (width v) s)
    (spread-list (width v) s (defined v) (defined-low v) outside (holds_of made))

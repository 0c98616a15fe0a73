-- What a build writes is the one net to which the step rule leads, byte by byte, from the simple net.
use mathlib.Core.List.{map}
use Rattle.spline.specs.Box.{spread}
use Rattle.spline.specs.Build.{direction}
use Rattle.claims_rule.proofs.Rule.{one-net}
use Rattle.claims_nets.proofs.Orders.{built-list}
use Rattle.claims_nets.specs.Nets.{Written}
use Rattle.builds.proofs.OrderNets.{spread-order}
use Rattle.builds.specs.Build.{build_net}
use Rattle.orders.specs.Order.{order_width}

pub written : Written
written order net work_length h =
    let s = build_net order net work_length in
    one-net (map direction order) (spread (order_width order) s)
    (spread-order order s (built-list order net work_length h))

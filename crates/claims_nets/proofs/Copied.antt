-- The factory's net, where it was copied, is the defined one of 2, 2, 2, 1.
use mathlib.Core.List.{List, ◌++◌}
use mathlib.Core.Path.{◌∙◌, ◌≡◌, ap}
use Prim.Native.Nat.{ℕ}
use lib.ListN.{drop, length, take}
use Rattle.spline.specs.Box.{width}
use Rattle.spline.specs.Defined.{defined}
use Rattle.factory.specs.Factory.{factory_checks, factory_list, factory_net, factory_places, factory_shape}
use Rattle.claims_rule.specs.Rule.{HoldsDefined}
use Rattle.claims_nets.proofs.Orders.{laid}
use Rattle.checks.specs.Checks.{Checked, no_refusal, passed_or}

-- the slice after a call that was not refused
pub copied-net : (net : List ℕ) → factory_checks (length net) ≡ no_refusal
    → factory_net net ≡ factory_list ++ drop factory_places net
unfolding factory_net
copied-net net h = ap (λ (c : Checked). passed_or c (factory_list ++ drop factory_places net) (λ _. net)) h

-- it begins with the defined net
pub copied-holds : (net : List ℕ) → factory_checks (length net) ≡ no_refusal
    → HoldsDefined factory_shape (factory_net net)
copied-holds net h =
    ap (take factory_places) (copied-net net h) ∙ laid (width factory_shape) (defined factory_shape) net

-- What an order builds is the one net to which the step rule leads, byte by byte, from the simple net.
use mathlib.Core.List.{List, map}
use mathlib.Core.Logic.{◌↔◌}
use mathlib.Core.Path.{◌∙◌, ◌≡◌, ap, fun_ext, subst, sym}
use Rattle.spline.proofs.Chain.{exists, only_one}
use Rattle.spline.specs.Build.{Follows, built, direction, simple}
use Rattle.spline.specs.Defined.{defined, defined_order}
use Rattle.spline.specs.Place.{Direction, Net, Place}
use Rattle.claims_rule.specs.Rule.{DefinedRule, Rule}

-- the chain of a list of directions has one end
one_end : (ds : List Direction) (R : Net) → Follows ds 1 simple R ↔ (R ≡ built ds 1 simple)
one_end ds R = (only_one ds R, λ e. subst (Follows ds 1 simple) (sym e) (exists ds))

-- a net that is this end has its number at every place, and no other net has
pub one-net : (ds : List Direction) (C : Net) → C ≡ built ds 1 simple
    → (R : Net) → Follows ds 1 simple R ↔ ((q : Place) → C q ≡ R q)
one-net ds C e R = (
  λ f q. ap (λ (N : Net). N q) (e ∙ sym ((one_end ds R).0 f)),
  λ same. (one_end ds R).1 (sym (fun_ext same) ∙ e),
)

pub rule : Rule
rule order = one_end (map direction order)

pub defined-rule : DefinedRule
unfolding defined
defined-rule v = one_end (defined_order v)

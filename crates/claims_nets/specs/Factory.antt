-- Copies of the factory's net: Section 14.9.
use Rattle.std.specs.Prelude.{Err, List, Ok, [], drop, length, take, true, ℕ, ◌<◌, ◌∷◌, ◌≡◌, ◌≤◌}
use Rattle.spline.specs.Multiplicities.{multiplicities}
use Rattle.unit.specs.Unit.{holds_net, with_net}
use Rattle.unit.specs.declared.Unit.{Unit}
use Rattle.builds.specs.Build.{build_answer, build_net}
use Rattle.orders.specs.Order.{build_checks}
use Rattle.inspection.specs.Inspect.{inspect_answer}
use Rattle.factory.specs.Factory.{factory_answer, factory_checks, factory_net}
use Rattle.claims_rule.specs.Rule.{HoldsDefined}
use Rattle.checks.specs.Checks.{no_refusal}
use Rattle.checks.specs.declared.Refusal.TheVariants.{NetRoom}

-- the order that builds the defined net of 2, 2, 2, 1
abbrev pub factory_order : List ℕ
factory_order = 1 ∷ 3 ∷ 2 ∷ []

-- A call that is lent 2197 places or more answers the unit with a net of 2, 2, 2, 1, and all else of it kept;
-- this counts as having a net. The slice then holds the defined net, and past it what it held.
abbrev pub FactoryCopies : Type 0
FactoryCopies =
    (u : Unit) (net : List ℕ) → 2197 ≤ length net
    → (let v = multiplicities 2 2 2 1 in
    (factory_answer u (length net) ≡ Ok (with_net u v))
    × (holds_net (with_net u v) ≡ true)
    × HoldsDefined v (factory_net net)
    × (drop 2197 (factory_net net) ≡ drop 2197 net))

-- A call that is lent fewer is refused by 4, and leaves the slice as found.
abbrev pub FactoryShort : Type 0
FactoryShort =
    (u : Unit) (net : List ℕ) → length net < 2197
    → (factory_answer u (length net) ≡ Err NetRoom) × (factory_net net ≡ net)

-- Where this call and a build of 1, 3, 2, handed the same unit, are not refused, they answer the same unit,
-- and the first 2197 places are the same too, whatever the unit and the slices held.
abbrev pub FactoryAsBuilt : Type 0
FactoryAsBuilt =
    (u after₁ after₂ : Unit) (net₁ net₂ : List ℕ) (work_length : ℕ)
    → factory_answer u (length net₁) ≡ Ok after₁
    → build_answer u factory_order (length net₂) work_length ≡ Ok after₂
    → (after₁ ≡ after₂)
    × (take 2197 (factory_net net₁) ≡ take 2197 (build_net factory_order net₂ work_length))

-- An inspection for 2, 2, 2, 1 to which 4 does not apply passes a slice that still holds the net which either
-- of them wrote.
abbrev pub FactoryInspected : Type 0
FactoryInspected =
    (u : Unit) (net written : List ℕ) (defined_length work_length : ℕ)
    → 2197 ≤ length net → 2197 ≤ defined_length → 2197 ≤ work_length
    → (let v = multiplicities 2 2 2 1 in
    (factory_checks (length written) ≡ no_refusal
    → take 2197 net ≡ take 2197 (factory_net written)
    → inspect_answer u v net defined_length work_length ≡ Ok (with_net u v))
    × ((build_work_length : ℕ) → build_checks factory_order (length written) build_work_length ≡ no_refusal
    → take 2197 net ≡ take 2197 (build_net factory_order written build_work_length)
    → inspect_answer u v net defined_length work_length ≡ Ok (with_net u v)))

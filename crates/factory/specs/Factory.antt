-- What a call that copies the factory's net answers and leaves in its slice: Section 6.5.
use Rattle.std.specs.Prelude.{Err, List, Ok, Result, drop, length, ltb, ℕ, ◌++◌}
use Rattle.spline.specs.Box.{net_list, places, width}
use Rattle.spline.specs.Defined.{defined}
use Rattle.spline.specs.Multiplicities.{Multiplicities, multiplicities}
use Rattle.unit.specs.Unit.{with_net}
use Rattle.unit.specs.declared.Unit.{Unit}
use Rattle.checks.specs.Checks.{Checked, no_refusal, passed_or, refuse_if}
use Rattle.checks.specs.declared.Refusal.{Refusal}
use Rattle.checks.specs.declared.Refusal.TheVariants.{NetRoom}

-- Section 6.5: the multiplicities of the factory shape
abbrev pub factory_shape : Multiplicities
factory_shape = multiplicities 2 2 2 1

-- Section 2.4: the number of places of its box, 2197
abbrev pub factory_places : ℕ
factory_places = places (width factory_shape)

-- Section 6.5: the numbers of its net
abbrev pub factory_list : List ℕ
factory_list = net_list (width factory_shape) (defined factory_shape)

-- Section 6.5: 4, for a net slice of this length
unfoldable pub factory_checks : ℕ → Checked
factory_checks net_length = refuse_if NetRoom (ltb net_length factory_places) no_refusal

-- Section 6.5: the answer
unfoldable pub factory_answer : Unit → ℕ → Result Unit Refusal
factory_answer u net_length = passed_or (factory_checks net_length) (Ok (with_net u factory_shape)) Err

-- Section 6.5: the net slice afterwards, its box filled with the defined net
unfoldable pub factory_net : List ℕ → List ℕ
factory_net net =
    passed_or (factory_checks (length net)) (factory_list ++ drop factory_places net) (λ _. net)

-- Inspections: which numbers they pass, and what they say of all others. Section 14.4.
use Rattle.std.specs.Prelude.{Err, List, Ok, length, true, ℕ, ◌↔◌, ◌≡◌, ◌≤◌}
use Rattle.spline.specs.Box.{places, width}
use Rattle.spline.specs.Multiplicities.{Multiplicities, allowed}
use Rattle.unit.specs.Unit.{with_net}
use Rattle.unit.specs.declared.Unit.{Unit}
use Rattle.inspection.specs.Inspect.{inspect_answer}
use Rattle.claims_rule.specs.Rule.{HoldsDefined, LowestDifference, RightNumbers}
use Rattle.checks.specs.declared.Refusal.TheVariants as refusal

-- Section 14.4. Where neither 3 nor 4 applies, an inspection passes exactly the numbers that, with zeros
-- outside the box, obey the rule at all places of ℤ³ in all directions with a repeat; with no repeat, exactly
-- the simple net.
abbrev pub Inspector : Type 0
Inspector =
    (u : Unit) (v : Multiplicities) (net : List ℕ) (defined_length work_length : ℕ)
    → allowed v ≡ true
    → places (width v) ≤ length net → places (width v) ≤ defined_length → places (width v) ≤ work_length
    → (inspect_answer u v net defined_length work_length ≡ Ok (with_net u v)) ↔ RightNumbers v net

-- ---- numbers that are refused

-- Section 14.4: there it refuses by 14 all other numbers, those that are not the defined net, and the place
-- is the lowest index that differs.
abbrev pub Differing : Type 0
Differing =
    (u : Unit) (v : Multiplicities) (net : List ℕ) (defined_length work_length : ℕ)
    → allowed v ≡ true
    → places (width v) ≤ length net → places (width v) ≤ defined_length → places (width v) ≤ work_length
    → (HoldsDefined v net → ⊥)
    → (i : ℕ)
    × (inspect_answer u v net defined_length work_length ≡ Err (refusal.Differing i))
    × LowestDifference v net i

-- Section 14.4: whatever an inspection is handed, the place of a 14 is the lowest index that differs.
abbrev pub Lowest : Type 0
Lowest =
    (u : Unit) (v : Multiplicities) (net : List ℕ) (defined_length work_length i : ℕ)
    → inspect_answer u v net defined_length work_length ≡ Err (refusal.Differing i)
    → LowestDifference v net i

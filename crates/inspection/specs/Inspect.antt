-- What an inspection answers: Section 7.
use Rattle.std.specs.Prelude.{Err, List, Ok, Result, length, not, ℕ}
use Rattle.sums.specs.Search.{first}
use Rattle.spline.specs.Box.{defined_number, places, width}
use Rattle.spline.specs.Multiplicities.{Multiplicities, allowed}
use Rattle.unit.specs.Unit.{with_net}
use Rattle.unit.specs.declared.Unit.{Unit}
use Rattle.inspection_checks.specs.Room.{shorter}
use Rattle.comparison.specs.Compare.{differs_from}
use Rattle.checks.specs.Checks.{Checked, no_refusal, passed_or, refuse_at, refuse_if}
use Rattle.checks.specs.declared.Refusal.{Refusal}
use Rattle.checks.specs.declared.Refusal.TheVariants.{BadMultiplicities, Differing, NetRoom}

-- Section 7.1: 3, 4, and 14 at the first index that differs, for work slices of these lengths
unfoldable pub inspect_checks : Multiplicities → List ℕ → ℕ → ℕ → Checked
inspect_checks v net defined_length work_length =
    refuse_if BadMultiplicities (not (allowed v))
    (refuse_if NetRoom (shorter (length net) defined_length work_length (places (width v)))
    (refuse_at Differing (first (places (width v)) (differs_from (defined_number v) net)) no_refusal))

-- Section 7.2: the answer
unfoldable pub inspect_answer : Unit → Multiplicities → List ℕ → ℕ → ℕ → Result Unit Refusal
inspect_answer u v net defined_length work_length =
    passed_or (inspect_checks v net defined_length work_length) (Ok (with_net u v)) Err

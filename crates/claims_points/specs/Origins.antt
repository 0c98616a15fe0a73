-- The origin of a block: Section 14.12.
use Rattle.std.specs.Prelude.{Bool, Err, List, Ok, length, pos, ℕ, ℤ, ◌≡◌}
use Rattle.sums.specs.Fill.{number_at}
use Rattle.unit.specs.Unit.{net_of, sizes}
use Rattle.unit.specs.declared.Unit.{Unit}
use Rattle.limits.specs.Limits.{lent_checks, unit_checks}
use Rattle.divisor_checks.specs.Divisor.{divisor_checks, live_divisor_checks}
use Rattle.cell_checks.specs.Inside.{cell_check}
use Rattle.axis_order.specs.declared.Placing.{Placing}
use Rattle.placing.specs.Place.{place_answer}
use Rattle.placing.specs.Placing.{block_cells, block_placing, placing}
use Rattle.answers.specs.Bernstein.{shift_numerator, uncertainty_numerator}
use Rattle.answers.specs.Live.{live_answer, live_value, live_valuing_answer}
use Rattle.answers.specs.Point.{fraction_at, point_answer, valuing_answer}
use Rattle.claims_placings.specs.Origins.{AtZero, moved_by, shifted}
use Rattle.blended.specs.Blend.{correction_at, uncertainty_at, window_checks}
use Rattle.checks.specs.Checks.{and_then, passed_or}

-- ---- an origin of 0

-- For a unit whose origin is 0 and coordinates that are not negative, the placing and check 12 are those of
-- the coordinates themselves, as where blocks had no origin. So the placing call, the point call and the live
-- call answer by these numbers.
abbrev pub OriginZero : Type 0
OriginZero =
    (u : Unit) → AtZero u
    → (x y z D : ℕ)
    → (let v = net_of u in
    let n = sizes u in
    let q = block_placing u x y z D in
    let cell = cell_check v n (block_cells u x y z D) in
    (placing u (pos x) (pos y) (pos z) D ≡ q)
    × (place_answer u (pos x) (pos y) (pos z) D
    ≡ passed_or (and_then (unit_checks u) (and_then (divisor_checks v D) cell)) (Ok q) Err)
    × ((net : List ℕ) (corrections : List ℤ) (uncertainties : List ℕ)
    → (let lent = lent_checks u (length net) (length corrections) (length uncertainties) in
    let correction = correction_at n corrections in
    let uncertainty = uncertainty_at n uncertainties in
    (point_answer u net corrections uncertainties (pos x) (pos y) (pos z) D
    ≡ passed_or
    (and_then lent
    (and_then (and_then (divisor_checks v D) cell) (window_checks v n (number_at net) correction q)))
    (Ok (fraction_at u net corrections uncertainties q D)) Err)
    × ((flag : Bool)
    → live_answer u net corrections uncertainties (pos x) (pos y) (pos z) D flag
    ≡ passed_or
    (and_then lent
    (and_then (live_divisor_checks v D) (and_then cell (window_checks v n (number_at net) correction q))))
    (Ok
    (live_value flag (shift_numerator v (number_at net) correction q)
    (uncertainty_numerator v (number_at net) uncertainty q)))
    Err))))

-- ---- another origin

-- A block that is moved answers the moved point as it did the old one: the placing call, the point call and
-- the live call give the same, refusals included. That holds of all whole numbers, and so of all origins and
-- points whose numbers can be handed in, before and after the move.
abbrev pub Moved : Type 0
Moved =
    (u : Unit) (d1 d2 d3 : ℤ) (x y z : ℤ) (D : ℕ)
    → (let there = moved_by u d1 d2 d3 in
    let x' = shifted x d1 D in
    let y' = shifted y d2 D in
    let z' = shifted z d3 D in
    (place_answer there x' y' z' D ≡ place_answer u x y z D)
    × ((net : List ℕ) (corrections : List ℤ) (uncertainties : List ℕ)
    → (point_answer there net corrections uncertainties x' y' z' D
    ≡ point_answer u net corrections uncertainties x y z D)
    × ((flag : Bool)
    → live_answer there net corrections uncertainties x' y' z' D flag
    ≡ live_answer u net corrections uncertainties x y z D flag)))

-- A placing does not have the origin in it, and what is answered for it is the same wherever the block lies.
abbrev pub PlacingStays : Type 0
PlacingStays =
    (u : Unit) (d1 d2 d3 : ℤ) (net : List ℕ) (corrections : List ℤ) (uncertainties : List ℕ) (q : Placing)
    → (let there = moved_by u d1 d2 d3 in
    (valuing_answer there net corrections uncertainties q ≡ valuing_answer u net corrections uncertainties q)
    × ((flag : Bool)
    → live_valuing_answer there net corrections uncertainties q flag
    ≡ live_valuing_answer u net corrections uncertainties q flag))

-- Further figures that were worked by hand, as one list: of faces, gaps, live calls, placings, origins and
-- files. Section 14.6.
use Rattle.std.specs.Prelude.{Err, List, Ok, Result, [], pos, true, ℕ, ℤ, ◌++◌, ◌∷◌}
use Rattle.std.specs.Float.{binary64}
use Rattle.std.specs.Float.Ieee.{of_bits}
use Rattle.sums.specs.Fill.{tabulate}
use Rattle.spline.specs.Box.{places, width}
use Rattle.checks.specs.declared.Refusal.{Refusal}
use Rattle.unit.specs.Unit.{empty_unit, net_of, with_block}
use Rattle.unit.specs.declared.Unit.{Unit}
use Rattle.field.specs.Load.{load_answer, load_checks}
use Rattle.encoding.specs.Encoding.{encoding}
use Rattle.divisor_checks.specs.Divisor.{live_divisor_checks}
use Rattle.axis_order.specs.declared.Placing.{Placing}
use Rattle.possible.specs.Possible.{placing_checks}
use Rattle.answers.specs.Live.{live_answer}
use Rattle.answers.specs.Point.{valuing_answer}
use Rattle.answers.specs.declared.LiveValue.TheVariants.{Both}
use Rattle.claims_figures.specs.Figures.{+◌, AllHold, Figure, Lent, Point, ◌at◌, ◌is◌, ◌over◌, answer}
use Rattle.claims_figures.specs.Figures.{checks, eight_fives, example, fraction, lent, simple_unit}
use Rattle.claims_figures.specs.Figures.{two_entries, unit_with, −◌}
use Rattle.checks.specs.Checks.{Checked, no_refusal, number_of}
use Rattle.answers.specs.declared.Fraction.{Fraction}
use Rattle.answers.specs.declared.LiveValue.{LiveValue}
use Rattle.checks.specs.declared.Refusal.TheVariants.{BadDivisor, BadLength, BadSizes, ImpossiblePlacing}
use Rattle.checks.specs.declared.Refusal.TheVariants.{LargeLiveScale, LargeScale, LargeUncertainty, NoBlock}
use Rattle.checks.specs.declared.Refusal.TheVariants.{Outside, ShortFile, UncertainGap, WindowGap}

-- ---- faces

-- one coordinate on the far face, and one before the first cell inside
abbrev pub face_figures : List Figure
face_figures =
    answer example at (2, 1, 1) over 1 is Ok (fraction (− 40) 5 1)
    ∷ answer example at (0, 1, 1) over 1 is Err Outside
    ∷ []

-- ---- gaps

-- 100 at entry (0,0,0), a gap at (1,0,0), and 0 elsewhere, with these uncertainties
abbrev pub with_gap : List ℕ → Lent
with_gap = lent simple_unit (+ 100 ∷ − 32768 ∷ + 0 ∷ + 0 ∷ + 0 ∷ + 0 ∷ + 0 ∷ + 0 ∷ [])

-- a gap without an uncertainty, with one, and with one before an uncertainty over the limit
abbrev pub certain_gap : Lent
certain_gap = with_gap (5 ∷ 0 ∷ 5 ∷ 5 ∷ 5 ∷ 5 ∷ 5 ∷ 5 ∷ [])

abbrev pub gap_of5 : Lent
gap_of5 = with_gap eight_fives

abbrev pub gap_before40000 : Lent
gap_before40000 = with_gap (5 ∷ 5 ∷ 5 ∷ 5 ∷ 5 ∷ 5 ∷ 5 ∷ 40000 ∷ [])

-- which of its checks the file of a block meets, if any, when it is loaded into slices of 8
abbrev pub file_checks : Lent → Checked
file_checks l =
    (let u = l.unit in
    load_checks (encoding u.n1 u.n2 u.n3 u.o1 u.o2 u.o3 l.corrections l.uncertainties)
    8 8)

abbrev pub gap_figures : List Figure
gap_figures =
    answer certain_gap at (1, 1, 1) over 1 is Err (WindowGap 1)
    ∷ answer gap_of5 at (1, 1, 1) over 1 is Err (WindowGap 1)
    ∷ file_checks certain_gap is no_refusal
    ∷ file_checks gap_of5 is Err (UncertainGap 1)
    ∷ file_checks gap_before40000 is Err (LargeUncertainty 7)
    ∷ []

-- ---- live calls

-- what a live call answers, with the uncertainty
abbrev pub live_call : Lent → Point → Result LiveValue Refusal
live_call l p =
    live_answer l.unit l.net l.corrections l.uncertainties p.x p.y p.z p.divisor true

-- which of 10, 11, 15 a divisor meets, if any
abbrev pub live_divisor : Lent → ℕ → Checked
live_divisor l D = live_divisor_checks (net_of l.unit) D

-- N and U by their bits
abbrev pub floats : ℕ → ℕ → Result LiveValue Refusal
floats N U = Ok (Both (record { numerator = of_bits binary64 N; uncertainty = of_bits binary64 U }))

-- a block of one entry under a net of degree 5 and of degree 3, with zeros in all slices: no point is inside
abbrev pub zeros : Unit → Lent
zeros u = record {
  unit = u;
  net = tabulate (λ i. 0) (places (width (net_of u)));
  corrections = + 0 ∷ [];
  uncertainties = 0 ∷ [];
}

abbrev pub zeros_of_degree5 : Lent
zeros_of_degree5 = zeros (unit_with (5, 1, 1, 1) (1, 1, 1))

abbrev pub zeros_of_degree3 : Lent
zeros_of_degree3 = zeros (unit_with (2, 2, 1, 1) (1, 1, 1))

-- −40 and 5, 0 and 5; then each degree at its largest divisor and at one more, and 11 before both
abbrev pub live_figures : List Figure
live_figures =
    live_call example at (2, 1, 1) over 1 is floats 0xc044_0000_0000_0000 0x4014_0000_0000_0000
    ∷ live_call example at (1, 2, 1) over 1 is floats 0 0x4014_0000_0000_0000
    ∷ live_divisor zeros_of_degree5 at 64 is no_refusal
    ∷ live_call zeros_of_degree5 at (0, 0, 0) over 64 is Err Outside
    ∷ live_call zeros_of_degree5 at (0, 0, 0) over 65 is Err LargeLiveScale
    ∷ live_call zeros_of_degree5 at (0, 0, 0) over 298 is Err LargeScale
    ∷ live_call zeros_of_degree3 at (0, 0, 0) over 2840 is Err Outside
    ∷ live_call zeros_of_degree3 at (0, 0, 0) over 2841 is Err LargeLiveScale
    ∷ []

-- ---- placings

-- a placing: its cell, the order of its axes and its four weights
infix 85 cell◌axes◌weights◌
abbrev pub cell◌axes◌weights◌ : ℕ × ℕ × ℕ → ℕ × ℕ × ℕ → ℕ × ℕ × ℕ × ℕ → Placing
cell (k1, k2, k3) axes (p, r, s) weights (l0, l1, l2, l3) =
    record { k1 = k1; k2 = k2; k3 = k3; p = p; r = r; s = s; l0 = l0; l1 = l1; l2 = l2; l3 = l3 }

-- what the valuing call answers
abbrev pub value : Lent → Placing → Result Fraction Refusal
value l q = valuing_answer l.unit l.net l.corrections l.uncertainties q

abbrev pub block322 : Unit
block322 = unit_with (1, 1, 1, 1) (3, 2, 2)

-- a size of 0 is that of no block
abbrev pub no_block : Unit
no_block = unit_with (1, 1, 1, 1) (0, 2, 2)

-- possible: on the far face. Not so: its like in the cell before, a tie with the higher axis first, a cell
-- outside, a sum of weights of 0 and one of 2^32 + 2, an axis that stands twice, also where 22 comes first.
-- Then the values at the placings of two points
abbrev pub placing_figures : List Figure
placing_figures =
    placing_checks block322 at cell (2, 1, 1) axes (1, 2, 3) weights (0, 1, 1, 0) is no_refusal
    ∷ placing_checks block322 at cell (1, 1, 1) axes (1, 2, 3) weights (0, 1, 1, 0) is Err ImpossiblePlacing
    ∷ placing_checks block322 at cell (1, 1, 1) axes (1, 3, 2) weights (1, 1, 0, 0) is Err ImpossiblePlacing
    ∷ placing_checks block322 at cell (3, 1, 1) axes (1, 2, 3) weights (1, 1, 0, 0) is Err ImpossiblePlacing
    ∷ placing_checks block322 at cell (1, 1, 1) axes (1, 2, 3) weights (0, 0, 0, 0) is Err ImpossiblePlacing
    ∷ placing_checks block322 at cell (1, 1, 1) axes (1, 2, 3)
    weights (4294967295, 3, 0, 0) is Err ImpossiblePlacing
    ∷ placing_checks block322 at cell (1, 1, 1) axes (1, 1, 3) weights (1, 1, 0, 0) is Err ImpossiblePlacing
    ∷ placing_checks no_block at cell (1, 1, 1) axes (1, 1, 3) weights (1, 1, 0, 0) is Err NoBlock
    ∷ value example at cell (1, 1, 1) axes (1, 2, 3) weights (1, 1, 0, 0) is Ok (fraction (+ 60) 10 2)
    ∷ value example at cell (1, 1, 1) axes (1, 2, 3) weights (0, 1, 0, 0) is Ok (fraction (− 40) 5 1)
    ∷ []

-- ---- origins

-- a point with signed coordinates
infix 85 ◌over±◌
abbrev pub ◌over±◌ : ℤ × ℤ × ℤ → ℕ → Point
(x, y, z) over± D = record { x = x; y = y; z = z; divisor = D }

-- a unit whose block has this origin
infix 80 ◌moved_to◌
abbrev pub ◌moved_to◌ : Unit → ℤ × ℤ × ℤ → Unit
u moved_to (o1, o2, o3) = with_block u u.n1 u.n2 u.n3 o1 o2 o3

-- the block of `example` with another origin
abbrev pub moved : Lent
moved = lent (simple_unit moved_to (− 2, − 1, + 5)) two_entries eight_fives

-- origins at both ends of 16 bits
abbrev pub highest_origin : Unit
highest_origin = simple_unit moved_to (+ 32767, + 0, + 0)

abbrev pub lowest_origin : Unit
lowest_origin = simple_unit moved_to (− 32768, + 0, + 0)

-- points of `example`, moved with the block; one step before the origin, and over 0; then the near face of a
-- block, and the end of 32 bits that is farthest from it
abbrev pub origin_figures : List Figure
origin_figures =
    answer moved at (− 1, + 0, + 6) over± 1 is Ok (fraction (+ 100) 5 1)
    ∷ answer moved at (− 1, + 0, + 12) over± 2 is Ok (fraction (+ 60) 10 2)
    ∷ answer moved at (+ 0, + 0, + 6) over± 1 is Ok (fraction (− 40) 5 1)
    ∷ checks moved.unit at (− 3, + 0, + 6) over± 1 is Err Outside
    ∷ checks moved.unit at (− 3, + 0, + 6) over± 0 is Err BadDivisor
    ∷ checks highest_origin at (+ 134217728, + 4096, + 4096) over± 4096 is no_refusal
    ∷ checks highest_origin at (− 2147483648, + 4096, + 4096) over± 4096 is Err Outside
    ∷ checks lowest_origin at (− 134213632, + 4096, + 4096) over± 4096 is no_refusal
    ∷ checks lowest_origin at (+ 2147483647, + 4096, + 4096) over± 4096 is Err Outside
    ∷ []

-- ---- files

-- what an empty unit answers when these bytes are loaded into slices of 8
abbrev pub load : List ℕ → Result Unit Refusal
load bytes = load_answer empty_unit bytes (tabulate (λ i. pos 0) 8) eight_fives

-- one entry, 7 with uncertainty 5, and the origin −2, 300, −32768
abbrev pub one_entry : List ℕ
one_entry = 1 ∷ 0 ∷ 1 ∷ 0 ∷ 1 ∷ 0 ∷ 254 ∷ 255 ∷ 44 ∷ 1 ∷ 0 ∷ 128 ∷ 7 ∷ 0 ∷ 5 ∷ 0 ∷ []

-- the layout before 0.7.0, which has no origin: one entry, and two
abbrev pub old_one_entry : List ℕ
old_one_entry = 1 ∷ 0 ∷ 1 ∷ 0 ∷ 1 ∷ 0 ∷ 7 ∷ 0 ∷ 5 ∷ 0 ∷ []

abbrev pub old_two_entries : List ℕ
old_two_entries = 2 ∷ 0 ∷ 1 ∷ 0 ∷ 1 ∷ 0 ∷ 7 ∷ 0 ∷ 8 ∷ 0 ∷ 5 ∷ 0 ∷ 6 ∷ 0 ∷ []

-- a first size of 0, in 11 bytes and in 12
abbrev pub eleven_bytes : List ℕ
eleven_bytes = 0 ∷ 0 ∷ 1 ∷ 0 ∷ 1 ∷ 0 ∷ 0 ∷ 0 ∷ 0 ∷ 0 ∷ 0 ∷ []

abbrev pub twelve_bytes : List ℕ
twelve_bytes = 0 ∷ 0 ∷ 1 ∷ 0 ∷ 1 ∷ 0 ∷ 0 ∷ 0 ∷ 0 ∷ 0 ∷ 0 ∷ 0 ∷ []

abbrev pub file_figures : List Figure
file_figures =
    load one_entry is Ok (with_block empty_unit 1 1 1 (− 2) (+ 300) (− 32768))
    ∷ load old_one_entry is Err ShortFile
    ∷ load old_two_entries is Err BadLength
    ∷ load eleven_bytes is Err ShortFile
    ∷ load twelve_bytes is Err BadSizes
    ∷ []

-- ---- all of them

abbrev pub further_figures : List Figure
further_figures =
    face_figures ++ (gap_figures ++ (live_figures ++ (placing_figures ++ (origin_figures ++ file_figures))))

-- Section 14.6: each of these figures follows from the definitions.
abbrev pub AllFurtherFigures : Type 0
AllFurtherFigures = AllHold further_figures

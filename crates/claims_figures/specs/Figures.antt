-- Figures that were worked by hand, of nets, of the largest divisor and of points, as one list: Section 14.6.
use Rattle.std.specs.Prelude.{Err, List, Ok, Result, [], neg_ℤ, pos, ℕ, ℤ, ◌∷◌, ◌≡◌}
use Rattle.spline.specs.Box.{net_list, width}
use Rattle.spline.specs.Build.{order_net, simple}
use Rattle.spline.specs.Multiplicities.{multiplicities, order_multiplicities}
use Rattle.spline.specs.Place.{a1, a2, a3, place}
use Rattle.checks.specs.declared.Refusal.{Refusal}
use Rattle.unit.specs.Unit.{empty_unit, with_block, with_net}
use Rattle.unit.specs.declared.Unit.{Unit}
use Rattle.placing.specs.Place.{position_checks}
use Rattle.answers.specs.Point.{point_answer}
use Rattle.answers.specs.declared.Fraction.{Fraction}
use Rattle.checks.specs.Checks.{Checked, no_refusal}
use Rattle.checks.specs.declared.Refusal.TheVariants.{LargeScale}

-- ---- a figure

-- what the definitions compute, and what came out by hand
pub record Figure : Type 1 where
  pub Kind : Type 0
  pub computed : Kind
  pub by_hand : Kind

-- written `what is computed` is `what came out`
infix 70 ◌is◌
abbrev pub ◌is◌ : {A : Type 0} → A → A → Figure
◌is◌ {A} computed by_hand = record { Kind = A; computed = computed; by_hand = by_hand }

-- every figure of a list follows from the definitions
abbrev pub AllHold : List Figure → Type 0
AllHold [] = Prim.Unit {0}
AllHold (f ∷ fs) = (f.computed ≡ f.by_hand) × AllHold fs

-- ---- words for what is handed in

infix 90 +◌ −◌
abbrev pub +◌ : ℕ → ℤ
+ n = pos n

abbrev pub −◌ : ℕ → ℤ
− n = neg_ℤ (pos n)

-- what something is at a place, a point or a placing
infix 80 ◌at◌
abbrev pub ◌at◌ : {A B : Type 0} → (A → B) → A → B
f at a = f a

pub record Point : Type 0 where
  pub x : ℤ
  pub y : ℤ
  pub z : ℤ
  pub divisor : ℕ

-- the point X, Y, Z over D
infix 85 ◌over◌
abbrev pub ◌over◌ : ℕ × ℕ × ℕ → ℕ → Point
(x, y, z) over D = record { x = pos x; y = pos y; z = pos z; divisor = D }

-- a unit with a net of these multiplicities and a block of these sizes, whose origin is 0
abbrev pub unit_with : ℕ × ℕ × ℕ × ℕ → ℕ × ℕ × ℕ → Unit
unit_with (v1, v2, v3, v4) (n1, n2, n3) =
    with_block (with_net empty_unit (multiplicities v1 v2 v3 v4)) n1 n2 n3 (pos 0) (pos 0) (pos 0)

-- a unit, and the slices that are lent with it
pub record Lent : Type 0 where
  pub unit : Unit
  pub net : List ℕ
  pub corrections : List ℤ
  pub uncertainties : List ℕ

-- a unit with the simple net, the numbers of this net, and these corrections and uncertainties
abbrev pub lent : Unit → List ℤ → List ℕ → Lent
lent u corrections uncertainties = record {
  unit = u;
  net = net_list (width (multiplicities 1 1 1 1)) simple;
  corrections = corrections;
  uncertainties = uncertainties;
}

-- ---- words for what is computed

-- the number that an order builds at a place
abbrev pub number : List ℕ → ℕ × ℕ × ℕ → ℕ
number order (x, y, z) = order_net order (place (pos x) (pos y) (pos z))

-- the widths of the box of what an order builds
abbrev pub box : List ℕ → ℕ × ℕ × ℕ
box order = (let W = width (order_multiplicities order) in (W a1, W a2, W a3))

-- which of 10, 11, 12 a point meets, if any
abbrev pub checks : Unit → Point → Checked
checks u p = position_checks u p.x p.y p.z p.divisor

-- what the point call answers
abbrev pub answer : Lent → Point → Result Fraction Refusal
answer l p =
    point_answer l.unit l.net l.corrections l.uncertainties p.x p.y p.z p.divisor

-- ---- words for what comes out

-- N, U and the denominator
abbrev pub fraction : ℤ → ℕ → ℕ → Fraction
fraction N U denominator = record { numerator = N; uncertainty = U; denominator = denominator }

-- ---- the figures

abbrev pub empty_order : List ℕ
empty_order = []

abbrev pub order1 : List ℕ
order1 = 1 ∷ []

abbrev pub order4 : List ℕ
order4 = 4 ∷ []

-- a net of degree 2 + 2 + 2 + 2 − 3 over a block with one cell inside, that of the points below
abbrev pub degree5 : Unit
degree5 = unit_with (2, 2, 2, 2) (4, 4, 4)

-- the simple net and a block of 2, 2, 2
abbrev pub simple_unit : Unit
simple_unit = unit_with (1, 1, 1, 1) (2, 2, 2)

-- 100 at entry (0,0,0), −40 at (1,0,0), and 0 elsewhere
abbrev pub two_entries : List ℤ
two_entries = + 100 ∷ − 40 ∷ + 0 ∷ + 0 ∷ + 0 ∷ + 0 ∷ + 0 ∷ + 0 ∷ []

abbrev pub eight_fives : List ℕ
eight_fives = 5 ∷ 5 ∷ 5 ∷ 5 ∷ 5 ∷ 5 ∷ 5 ∷ 5 ∷ []

abbrev pub example : Lent
example = lent simple_unit two_entries eight_fives

abbrev pub figures : List Figure
figures =
    number empty_order at (1, 1, 1) is 1
    ∷ box order1 is (7, 5, 5)
    ∷ number order1 at (3, 2, 2) is 2
    ∷ number order1 at (2, 1, 1) is 1
    ∷ number order1 at (2, 3, 3) is 0
    ∷ number order1 at (4, 3, 3) is 1
    ∷ number order4 at (3, 3, 3) is 2
    ∷ number order4 at (2, 3, 4) is 0
    ∷ checks degree5 at (891, 891, 891) over 297 is no_refusal
    ∷ checks degree5 at (894, 894, 894) over 298 is Err LargeScale
    ∷ answer example at (1, 1, 1) over 1 is Ok (fraction (+ 100) 5 1)
    ∷ answer example at (3, 2, 2) over 2 is Ok (fraction (+ 60) 10 2)
    ∷ []

-- Section 14.6: each of these figures follows from the definitions.
abbrev pub AllFigures : Type 0
AllFigures = AllHold figures

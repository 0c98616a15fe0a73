-- Multiplicities and boxes as the code holds them: Sections 2.2 to 2.4.
use Rattle.std.specs.Prelude.{Bool, ◌&&◌, ℕ, leb}
use Rattle.spline.specs.Box.{places, width}
use Rattle.spline.specs.Multiplicities.{Multiplicities, degree, multiplicities}
use Rattle.spline.specs.Place.{Axis, a1, a2, a3}
use Rattle.shape.specs.declared.Counts.{Counts}
use Rattle.shape.specs.declared.Shape.{Shape}

-- Section 2.2: the four multiplicities
abbrev pub counted : Counts → Multiplicities
counted c = multiplicities c.v1 c.v2 c.v3 c.v4

-- Sections 2.3, 2.4: the degree and the widths of multiplicities
abbrev pub shape_of : Multiplicities → Shape
shape_of v = record { m = degree v; w1 = width v a1; w2 = width v a2; w3 = width v a3 }

-- Section 2.4: the width of a shape on an axis
abbrev pub widths : Shape → Axis → ℕ
widths s a1 = s.w1
widths s a2 = s.w2
widths s a3 = s.w3

-- Section 2.4: a width that a box can have; 9 × 10 + 1 is the largest
unfoldable pub side_allowed : ℕ → Bool
side_allowed w = leb 1 w && leb w 91

-- Sections 2.3, 2.4: a degree and widths within the limits
unfoldable pub boxed : Shape → Bool
boxed s = leb s.m 9 && side_allowed s.w1 && side_allowed s.w2 && side_allowed s.w3

-- Section 5.3: a shape within the limits whose box has no more than n places
unfoldable pub held_in : Shape → ℕ → Bool
held_in s n = boxed s && leb (places (widths s)) n

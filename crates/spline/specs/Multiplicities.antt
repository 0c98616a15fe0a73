-- Multiplicities, degree and extents: Sections 2.2, 2.3, 3.6.
use Rattle.std.specs.Prelude.{List, [], ◌∷◌, map, Bool, true, false, cond, ◌&&◌, ℕ, suc, ◌+◌, ◌-◌, ◌<◌, leb}
use Rattle.spline.specs.Place.{Axis, a1, a2, a3, Direction, along, diagonal, same_axis}
use Rattle.spline.specs.Build.{direction}

-- Section 2.2: v1 to v4
pub record Multiplicities : Type 0 where
  pub v1 : ℕ
  pub v2 : ℕ
  pub v3 : ℕ
  pub v4 : ℕ

abbrev pub multiplicities : ℕ → ℕ → ℕ → ℕ → Multiplicities
multiplicities v1 v2 v3 v4 = record { v1 = v1; v2 = v2; v3 = v3; v4 = v4 }

abbrev pub multiplicity : Direction → Multiplicities → ℕ
multiplicity (along a1) v = v.v1
multiplicity (along a2) v = v.v2
multiplicity (along a3) v = v.v3
multiplicity diagonal v = v.v4

-- Section 2.2: allowed multiplicities, none 0 and 12 in all at most
unfoldable pub allowed : Multiplicities → Bool
allowed v =
    leb 1 v.v1 && leb 1 v.v2 && leb 1 v.v3 && leb 1 v.v4
    && leb (v.v1 + v.v2 + v.v3 + v.v4) 12

-- Section 2.3: the degree m
abbrev pub degree : Multiplicities → ℕ
degree v = v.v1 + v.v2 + v.v3 + v.v4 - 3

-- Section 2.3: the extent Eb on an axis
abbrev pub extent : Multiplicities → Axis → ℕ
extent v b = multiplicity (along b) v + v.v4

-- Section 3.4: one repeat of the direction more
abbrev pub more : Direction → Multiplicities → Multiplicities
more (along a1) v = multiplicities (suc v.v1) v.v2 v.v3 v.v4
more (along a2) v = multiplicities v.v1 (suc v.v2) v.v3 v.v4
more (along a3) v = multiplicities v.v1 v.v2 (suc v.v3) v.v4
more diagonal v = multiplicities v.v1 v.v2 v.v3 (suc v.v4)

-- Section 3.4: one repeat of the direction fewer
abbrev pub fewer : Direction → Multiplicities → Multiplicities
fewer (along a1) v = multiplicities (v.v1 - 1) v.v2 v.v3 v.v4
fewer (along a2) v = multiplicities v.v1 (v.v2 - 1) v.v3 v.v4
fewer (along a3) v = multiplicities v.v1 v.v2 (v.v3 - 1) v.v4
fewer diagonal v = multiplicities v.v1 v.v2 v.v3 (v.v4 - 1)

-- Section 2.2: the direction has a repeat
abbrev pub HasRepeat : Direction → Multiplicities → Type 0
HasRepeat d v = 1 < multiplicity d v

-- Section 3.6: the multiplicities of an order, one more for each time that it names a direction
abbrev pub multiplicities_of : List Direction → Multiplicities
multiplicities_of [] = multiplicities 1 1 1 1
multiplicities_of (d ∷ ds) = more d (multiplicities_of ds)

-- Section 3.6: the same of an order of bytes
abbrev pub order_multiplicities : List ℕ → Multiplicities
order_multiplicities order = multiplicities_of (map direction order)

abbrev pub same_direction : Direction → Direction → Bool
same_direction (along a) (along b) = same_axis a b
same_direction (along a) diagonal = false
same_direction diagonal (along b) = false
same_direction diagonal diagonal = true

-- Section 14.3: how often an order names a direction
abbrev pub count : Direction → List Direction → ℕ
count d [] = 0
count d (e ∷ ds) = cond (same_direction d e) (suc (count d ds)) (count d ds)

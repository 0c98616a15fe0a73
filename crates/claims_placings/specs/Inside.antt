-- Which points are inside, the far face included: Section 14.5.
use Rattle.std.specs.Prelude.{◌↔◌, ◌≡◌, ◌-◌, ◌≤◌, ℕ, ◌*ℤ◌, ◌+ℤ◌, pos, ℤ, ◌≤ℤ◌}
use Rattle.spline.specs.Multiplicities.{extent}
use Rattle.spline.specs.Place.{a1, a2, a3}
use Rattle.unit.specs.Unit.{net_of}
use Rattle.unit.specs.declared.Unit.{Unit}
use Rattle.limits.specs.Limits.{unit_checks}
use Rattle.divisor_checks.specs.Divisor.{divisor_checks}
use Rattle.placing.specs.Place.{position_checks}
use Rattle.checks.specs.Checks.{no_refusal}

-- Section 9.2: a coordinate over D is inside on an axis with extent E, n entries and origin o: from
-- (o + E − 1)×D to (o + n)×D, both included
abbrev pub CoordinateInside : ℕ → ℕ → ℤ → ℤ → ℕ → Type 0
CoordinateInside E n o x D =
    (E ≤ n) × (((o +ℤ pos (E - 1)) *ℤ pos D) ≤ℤ x) × (x ≤ℤ ((o +ℤ pos n) *ℤ pos D))

-- Section 14.5. For a unit with a net and a block, and a divisor to which neither 10 nor 11 applies, 12 lets
-- exactly those points pass that have a coordinate inside on every axis, the far face included.
abbrev pub Admitted : Type 0
Admitted =
    (u : Unit) (x y z : ℤ) (D : ℕ)
    → unit_checks u ≡ no_refusal → divisor_checks (net_of u) D ≡ no_refusal
    → (let E = extent (net_of u) in
    (position_checks u x y z D ≡ no_refusal)
    ↔ (CoordinateInside (E a1) u.n1 u.o1 x D
    × CoordinateInside (E a2) u.n2 u.o2 y D
    × CoordinateInside (E a3) u.n3 u.o3 z D))

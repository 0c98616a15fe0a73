-- The defined net of four multiplicities: Section 3.7.
use Rattle.std.specs.Prelude.{List, [], ◌∷◌, ℕ, zero, suc, ◌-◌}
use Rattle.spline.specs.Place.{a1, a2, a3, Direction, along, diagonal, Net}
use Rattle.spline.specs.Build.{simple, built}
use Rattle.spline.specs.Multiplicities.{Multiplicities}

-- n times the direction d, then ds
abbrev pub repeats : ℕ → Direction → List Direction → List Direction
repeats zero d ds = ds
repeats (suc n) d ds = d ∷ repeats n d ds

-- Section 3.7: the order that defines a net, directions 1, 3, 2, 4 with their repeats
unfoldable pub defined_order : Multiplicities → List Direction
defined_order v =
    repeats (v.v1 - 1) (along a1)
    (repeats (v.v3 - 1) (along a3)
    (repeats (v.v2 - 1) (along a2)
    (repeats (v.v4 - 1) diagonal [])))

-- Section 3.7: the defined net, which this order builds
unfoldable pub defined : Multiplicities → Net
defined v = built (defined_order v) 1 simple

-- What a point's answer takes up of its coordinates and of the origin: their difference on each axis.
use mathlib.Core.Bool.{Bool}
use mathlib.Core.List.{List}
use mathlib.Core.Path.{◌≡◌, ap₂, refl}
use Prim.Native.Nat.{ℕ}
use lib.IntN.{pos, ℤ}
use lib.ListN.{length}
use Rattle.unit.specs.Unit.{holds_block, holds_net, net_of}
use Rattle.unit.specs.declared.Unit.{Unit}
use Rattle.limits.specs.Limits.{lent_checks, unit_checks}
use Rattle.divisor_checks.specs.Divisor.{divisor_checks, live_divisor_checks}
use Rattle.axis_order.specs.declared.Placing.{Placing}
use Rattle.placing.specs.Place.{inside_check, place_answer, position_checks}
use Rattle.placing.specs.Placing.{placing}
use Rattle.placing_fields.specs.Fields.{faces_in_last}
use Rattle.possible.specs.Possible.{live_placing_checks, placed_checks, placing_checks, possible}
use Rattle.answers.specs.Live.{live_answer, live_checks, live_value, live_valuing_answer, live_valuing_checks}
use Rattle.answers.specs.Point.{fraction_at, point_answer, point_checks, valuing_answer}
use Rattle.claims_placings.proofs.Origins.{inside-moved, placing-moved, zero-inside, zero-placing}
use Rattle.claims_placings.specs.Origins.{moved_by, shifted}
use Rattle.claims_points.proofs.Chains.{lent_slices, window}
use Rattle.claims_points.specs.Origins.{Moved, OriginZero, PlacingStays}
use Rattle.blended.specs.Blend.{blend_checks}
use Rattle.checks.specs.Checks.{Checked, and_then, passed_or}
use Rattle.std.specs.Prelude.{Err, Ok, Result}
use Rattle.checks.specs.declared.Refusal.{Refusal}
use Rattle.answers.specs.declared.Fraction.{Fraction}
use Rattle.answers.specs.declared.LiveValue.{LiveValue}

-- ---- answers by what is read of the coordinates

-- the answers by these two
module _ (u : Unit) (D : ℕ) where
  abbrev place_by : Checked → Placing → Result Placing Refusal
  place_by k q = passed_or (and_then (unit_checks u) (and_then (divisor_checks (net_of u) D) k)) (Ok q) Err

  module _ (net : List ℕ) (corrections : List ℤ) (uncertainties : List ℕ) where
    abbrev point_by : Checked → Placing → Result Fraction Refusal
    point_by k q =
        passed_or
        (and_then (lent_slices u net corrections (length uncertainties))
        (and_then (and_then (divisor_checks (net_of u) D) k) (window u net corrections q)))
        (Ok (fraction_at u net corrections uncertainties q D)) Err

    abbrev live_by : Bool → Checked → Placing → Result LiveValue Refusal
    live_by flag k q =
        let f = fraction_at u net corrections uncertainties q D in
        passed_or
        (and_then (lent_slices u net corrections (length uncertainties))
        (and_then (live_divisor_checks (net_of u) D) (and_then k (window u net corrections q))))
        (Ok (live_value flag f.numerator f.uncertainty)) Err

module _ (u : Unit) (x y z : ℤ) (D : ℕ) {k : Checked} {q : Placing} (inside : inside_check u x y z D ≡ k)
    (placed : placing u x y z D ≡ q) where
  place-by : place_answer u x y z D ≡ place_by u D k q
  unfolding place_answer position_checks
  place-by = ap₂ (place_by u D) inside placed

  module _ (net : List ℕ) (corrections : List ℤ) (uncertainties : List ℕ) where
    point-by : point_answer u net corrections uncertainties x y z D
        ≡ point_by u D net corrections uncertainties k q
    unfolding point_answer point_checks position_checks
    point-by = ap₂ (point_by u D net corrections uncertainties) inside placed

    live-by : (flag : Bool) → live_answer u net corrections uncertainties x y z D flag
        ≡ live_by u D net corrections uncertainties flag k q
    unfolding live_answer live_checks
    live-by flag = ap₂ (live_by u D net corrections uncertainties flag) inside placed

-- ---- an origin of 0

pub origin-zero : OriginZero
origin-zero u zero x y z D =
    let inside = zero-inside u zero x y z D in
    let placed = zero-placing u zero x y z D in (
      placed,
      place-by u (pos x) (pos y) (pos z) D inside placed,
      λ net corrections uncertainties. (
        point-by u (pos x) (pos y) (pos z) D inside placed net corrections uncertainties,
        live-by u (pos x) (pos y) (pos z) D inside placed net corrections uncertainties,
      ),
    )

-- ---- another origin

module _ (u : Unit) (d1 d2 d3 : ℤ) (x y z : ℤ) (D : ℕ) where
  -- the moved unit and the moved point
  abbrev there : Unit
  there = moved_by u d1 d2 d3

  abbrev x' : ℤ
  x' = shifted x d1 D

  abbrev y' : ℤ
  y' = shifted y d2 D

  abbrev z' : ℤ
  z' = shifted z d3 D

  place_moved : place_answer there x' y' z' D ≡ place_answer u x y z D
  unfolding place_answer position_checks unit_checks holds_net holds_block
  place_moved =
      place-by there x' y' z' D (inside-moved u d1 d2 d3 x y z D) (placing-moved u d1 d2 d3 x y z D)

  module _ (net : List ℕ) (corrections : List ℤ) (uncertainties : List ℕ) where
    point_moved : point_answer there net corrections uncertainties x' y' z' D
        ≡ point_answer u net corrections uncertainties x y z D
    unfolding point_answer point_checks position_checks lent_checks unit_checks holds_net holds_block
    point_moved =
        point-by there x' y' z' D (inside-moved u d1 d2 d3 x y z D) (placing-moved u d1 d2 d3 x y z D) net
        corrections uncertainties

    live_moved : (flag : Bool) → live_answer there net corrections uncertainties x' y' z' D flag
        ≡ live_answer u net corrections uncertainties x y z D flag
    unfolding live_answer live_checks lent_checks unit_checks holds_net holds_block
    live_moved =
        live-by there x' y' z' D (inside-moved u d1 d2 d3 x y z D) (placing-moved u d1 d2 d3 x y z D) net
        corrections uncertainties

pub moved : Moved
moved u d1 d2 d3 x y z D =
    let placed = place_moved u d1 d2 d3 x y z D in (
      cc,
      λ net corrections uncertainties.
          let valued = point_moved u d1 d2 d3 x y z D net corrections uncertainties in (
            cc,
            λ flag. let live = live_moved u d1 d2 d3 x y z D net corrections uncertainties flag in cc,
          ),
    )

pub placing-stays : PlacingStays
unfolding valuing_answer blend_checks live_valuing_answer live_valuing_checks live_placing_checks placed_checks
    placing_checks possible faces_in_last unit_checks holds_net holds_block
placing-stays u d1 d2 d3 net corrections uncertainties q = (refl, λ flag. refl)

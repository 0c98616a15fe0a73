-- What a blending call answers, by its checks in their order (21, 22, 17, 4, 9, 13, 23), and what the arrays
-- that it is lent hold at its exit: Section 10.7.
use Rattle.std.specs.Prelude.{not, List, ◌*◌, ◌-◌, ◌<◌, ◌≤◌, ℕ, nat_abs, ℤ, length}
use Rattle.sums.specs.Coefficient.{factorial}
use Rattle.sums.specs.Fill.{filled, number_at, signed_at}
use Rattle.spline.specs.Box.{index}
use Rattle.spline.specs.Multiplicities.{Multiplicities, degree}
use Rattle.spline.specs.Place.{Axis}
use Rattle.unit.specs.Unit.{net_of, sizes}
use Rattle.unit.specs.declared.Unit.{Unit}
use Rattle.axis_order.specs.Weights.{placing_cell}
use Rattle.axis_order.specs.declared.Placing.{Placing}
use Rattle.possible.specs.Possible.{placed_checks}
use Rattle.tetrahedron.specs.LocalPlaces.{local_at, local_places}
use Rattle.tetrahedron.specs.declared.local.LocalPlace.{LocalPlace}
use Rattle.blended.specs.Blending.{adds_up, blended_correction, blended_uncertainty, local_place}
use Rattle.blended.specs.Gaps.{first_gap}
use Rattle.checks.specs.Checks.{Checked, and_then, no_refusal, passed_or, refuse_at, refuse_if}
use Rattle.checks.specs.declared.Refusal.TheVariants.{UnevenShares, WindowGap}

-- ---- lent lists

-- Section 8.1: as entries of a block of sizes n
abbrev pub correction_at : (Axis → ℕ) → List ℤ → ℕ → ℕ → ℕ → ℤ
correction_at n l j1 j2 j3 = signed_at l (index n j1 j2 j3)

abbrev pub uncertainty_at : (Axis → ℕ) → List ℕ → ℕ → ℕ → ℕ → ℕ
uncertainty_at n l j1 j2 j3 = number_at l (index n j1 j2 j3)

-- ---- checks

-- Sections 10.5 and 10.6: 13 for a gap in the window, with its lowest index; 23 for shares that do not add up
unfoldable pub window_checks : Multiplicities → (Axis → ℕ) → (ℕ → ℕ) → (ℕ → ℕ → ℕ → ℤ) → Placing → Checked
window_checks v n net corrections q =
    refuse_at WindowGap (first_gap v n corrections (placing_cell q))
    (refuse_if UnevenShares (not (adds_up v net q)) no_refusal)

-- Section 10.7: all checks in their order
unfoldable pub blend_checks : Unit → List ℕ → List ℤ → List ℕ → Placing → Checked
blend_checks u net corrections uncertainties q =
    and_then (placed_checks u q (length net) (length corrections) (length uncertainties))
    (window_checks (net_of u) (sizes u) (number_at net) (correction_at (sizes u) corrections) q)

-- ---- the arrays

-- Section 10.1: where a local place lies on each axis
abbrev pub local_of : Placing → LocalPlace → Axis → ℕ
local_of q l = local_place q (l.p - l.r) (l.r - l.s) l.s

-- Section 10.4: the blended numbers at the local place with number t, from lent lists
unfoldable pub blended_correction_at : Unit → List ℕ → List ℤ → Placing → ℕ → ℤ
blended_correction_at u net corrections q t =
    blended_correction (net_of u) (number_at net) (correction_at (sizes u) corrections) (placing_cell q)
    (local_of q (local_at t))

unfoldable pub blended_uncertainty_at : Unit → List ℕ → List ℕ → Placing → ℕ → ℕ
blended_uncertainty_at u net uncertainties q t =
    blended_uncertainty (net_of u) (number_at net) (uncertainty_at (sizes u) uncertainties) (placing_cell q)
    (local_of q (local_at t))

-- Section 11.5: the largest correction and uncertainty times m! bound them
pub record Sized (u : Unit) (net : List ℕ) (corrections : List ℤ) (uncertainties : List ℕ)
    (q : Placing) : Type 0 where
  pub of_corrections : (t : ℕ) → t < local_places (degree (net_of u))
      → nat_abs (blended_correction_at u net corrections q t) ≤ 32767 * factorial (degree (net_of u))
  pub of_uncertainties : (t : ℕ) → t < local_places (degree (net_of u))
      → blended_uncertainty_at u net uncertainties q t ≤ 65535 * factorial (degree (net_of u))

-- Section 10.7: an array at exit, with a number for each local place of the unit's net where checks have
-- passed, else as it was
unfoldable pub written_if : {A : Type 0} → Checked → (ℕ → A) → Unit → List A → List A
written_if k f u d = passed_or k (filled f (local_places (degree (net_of u))) d) (λ r. d)

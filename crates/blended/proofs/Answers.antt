-- The answer of a blending call, case by case, and what it takes to blend at a placing.
use mathlib.Core.Bool.{false, true}
use mathlib.Core.List.{List}
use mathlib.Core.Path.{◌≡◌, refl, sym}
use Prim.Native.Nat.{ℕ}
use lib.IntN.{ℤ}
use lib.ListN.{length}
use Rattle.sums.specs.Fill.{filled, number_at}
use Rattle.sums.specs.Search.{Found, at, nowhere}
use Rattle.spline.specs.Multiplicities.{Multiplicities, degree}
use Rattle.spline.specs.Place.{Axis}
use Rattle.checks.proofs.Checks.{stopped-passed}
use Rattle.checks.specs.declared.Refusal.{Refusal}
use Rattle.unit.specs.Unit.{net_of, sizes}
use Rattle.unit.specs.declared.Unit.{Unit}
use Rattle.limits.proofs.Accepted.{Lent}
use Rattle.cell_checks.specs.Inside.{inside}
use Rattle.axis_order.specs.Inner.Ranking.{Axes}
use Rattle.axis_order.specs.Weights.{placing_cell}
use Rattle.axis_order.specs.declared.Placing.{Placing}
use Rattle.placing.proofs.Placed.{PointAccepted}
use Rattle.placing.proofs.Weights.{placing-axes}
use Rattle.placing.specs.Placing.{placing}
use Rattle.possible.specs.Possible.{placed_checks}
use Rattle.tetrahedron.specs.LocalPlaces.{local_places}
use Rattle.blended.specs.Blend.{blend_checks, correction_at, window_checks, written_if}
use Rattle.blended.specs.Blending.{adds_up}
use Rattle.blended.specs.Gaps.{first_gap}
use Rattle.blended.specs.Inner.Fit.{Fit}
use Rattle.checks.specs.Checks.{Checked, no_refusal, refuse_at}
use Rattle.std.specs.Prelude.{Err}
use Rattle.checks.specs.declared.Refusal.TheVariants.{UnevenShares, WindowGap}

module _ (u : Unit) (net_length corrections_length uncertainties_length : ℕ) where
  -- a placing in a cell that is inside can be blended
  pub fit_at : (q : Placing) → Lent u net_length corrections_length uncertainties_length
      → inside (net_of u) (sizes u) (placing_cell q) ≡ true → Axes q.p q.r q.s
      → Fit u net_length corrections_length uncertainties_length q
  fit_at q l i a = record {
    net_held = l.unit.net_held;
    block_held = l.unit.block_held;
    net_long = l.net_long;
    corrections_long = l.corrections_long;
    uncertainties_long = l.uncertainties_long;
    point_inside = i;
    axes = a;
  }

  -- so can that of a point that no check has refused
  pub fit : (x y z : ℤ) (D : ℕ) → Lent u net_length corrections_length uncertainties_length
      → PointAccepted u x y z D
      → Fit u net_length corrections_length uncertainties_length (placing u x y z D)
  unfolding placing
  fit x y z D l p = fit_at (placing u x y z D) l p.point_inside (placing-axes u x y z D)

-- ---- the checks of the window

module _ (v : Multiplicities) (n : Axis → ℕ) (net : ℕ → ℕ) (corrections : ℕ → ℕ → ℕ → ℤ) (q : Placing) where
  -- a gap is 13 with its index
  pub window-stopped : (found : Found) {r : Refusal} → first_gap v n corrections (placing_cell q) ≡ found
      → refuse_at WindowGap found no_refusal ≡ Err r → window_checks v n net corrections q ≡ Err r
  unfolding window_checks
  window-stopped nowhere e h = stopped-passed _ (sym h)
  window-stopped (at i) e h = rw e h

  -- with no gap, shares that do not add up are 23
  pub window-uneven : first_gap v n corrections (placing_cell q) ≡ nowhere → adds_up v net q ≡ false
      → window_checks v n net corrections q ≡ Err UnevenShares
  unfolding window_checks
  window-uneven e a = rw (e, a) refl

  -- and shares that add up pass
  pub window-passed : first_gap v n corrections (placing_cell q) ≡ nowhere → adds_up v net q ≡ true
      → window_checks v n net corrections q ≡ no_refusal
  unfolding window_checks
  window-passed e a = rw (e, a) refl

-- ---- what is written

module _ {A : Type 0} {k : Checked} (f : ℕ → A) (u : Unit) (d : List A) where
  -- nothing where a check has refused
  pub nothing_written : {r : Refusal} → k ≡ Err r → d ≡ written_if k f u d
  unfolding written_if
  nothing_written e = rw e refl

  -- every local place's number where all have passed
  pub all-written : k ≡ no_refusal → written_if k f u d ≡ filled f (local_places (degree (net_of u))) d
  unfolding written_if
  all-written e = rw e refl

-- ---- the whole call

module _ (u : Unit) (net : List ℕ) (corrections : List ℤ) (uncertainties : List ℕ) (q : Placing) where
  abbrev placed-checks : Checked
  placed-checks = placed_checks u q (length net) (length corrections) (length uncertainties)

  -- a refusal for the placing or for what is lent comes first
  pub placed-stops : {r : Refusal} → placed-checks ≡ Err r
      → Err r ≡ blend_checks u net corrections uncertainties q
  unfolding blend_checks
  placed-stops e = rw e refl

  -- else the window decides
  pub placed-goes-on : placed-checks ≡ no_refusal
      → window_checks (net_of u) (sizes u) (number_at net) (correction_at (sizes u) corrections) q
      ≡ blend_checks u net corrections uncertainties q
  unfolding blend_checks
  placed-goes-on e = rw e refl

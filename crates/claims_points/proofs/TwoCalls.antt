-- Placing and valuing in turn beside the point call: its checks are theirs, in another order.
use mathlib.Core.Bool.{Bool, ◌||◌, false, true}
use mathlib.Core.List.{List}
use mathlib.Core.Logic.{◌⊎◌, inl, inr}
use mathlib.Core.Path.{◌≡◌, refl, sym}
use Prim.Native.Nat.{ℕ}
use lib.Dec.{ltb}
use lib.IntN.{ℤ}
use lib.ListN.{length}
use Rattle.spline.specs.Box.{places, width}
use Rattle.checks.proofs.Checks.{refused-by, stopped-passed}
use Rattle.checks.specs.declared.Refusal.{Refusal}
use Rattle.unit.specs.Unit.{net_of, sizes}
use Rattle.unit.specs.declared.Unit.{Unit}
use Rattle.limits.specs.Limits.{lent_checks, unit_checks}
use Rattle.placing.specs.Place.{place_answer, position_checks}
use Rattle.placing.specs.Placing.{placing}
use Rattle.claims_points.proofs.Chains.{lent_slices, room}
use Rattle.claims_points.specs.Placings.{TwoCalls, TwoRefused}
use Rattle.answers.proofs.Point as in-turn
use Rattle.checks.specs.Checks.{Checked, and_then, no_refusal, refuse_if}
use Rattle.std.specs.Prelude.{Err, Ok}
use Rattle.checks.specs.declared.Refusal.TheVariants.{BlockRoom, NetRoom}

module _ (u : Unit) (x y z : ℤ) (D : ℕ) where
  -- a point that is not placed has met a check
  not-placed : {r : Refusal} → place_answer u x y z D ≡ Err r
      → and_then (unit_checks u) (position_checks u x y z D) ≡ Err r
  unfolding place_answer
  not-placed h = refused-by (and_then (unit_checks u) (position_checks u x y z D)) (placing u x y z D) h

-- ---- both chains of checks

module _ (u : Unit) (net : List ℕ) (corrections : List ℤ) (uncertainties : List ℕ) where
  abbrev slices : Checked
  slices = room u net corrections (length uncertainties)

  abbrev lent : Checked
  lent = lent_slices u net corrections (length uncertainties)

  -- for a unit that passes, the checks of what is lent are those of the slices
  pub lent_is : unit_checks u ≡ no_refusal → lent ≡ slices
  unfolding lent_checks
  lent_is e = rw e refl

  -- a slice that is refused meets 4 or 9, unless the unit is
  short : {r s : Refusal} (rest : Checked) → and_then (unit_checks u) rest ≡ Err r → lent ≡ Err s
      → (s ≡ r) ⊎ ((s ≡ NetRoom) ⊎ (s ≡ BlockRoom))
  unfolding lent_checks
  short {r} {s} rest h k = go (unit_checks u) h k
    where
      by-room : (a b : Bool) → refuse_if NetRoom a (refuse_if BlockRoom b no_refusal) ≡ Err s
          → (s ≡ NetRoom) ⊎ (s ≡ BlockRoom)
      by-room true b e = inl cc
      by-room false true e = inr cc
      by-room false false e = stopped-passed s (sym e)

      go : (c : Checked) → and_then c rest ≡ Err r → and_then c slices ≡ Err s
          → (s ≡ r) ⊎ ((s ≡ NetRoom) ⊎ (s ≡ BlockRoom))
      go (Err t) e f = inl cc
      go (Ok _) e f =
          let n = places (sizes u) in
          inr (by-room (ltb (length net) (places (width (net_of u))))
          (ltb (length corrections) n || ltb (length uncertainties) n) f)

-- ---- the demands

pub two-calls : TwoCalls
two-calls u net corrections uncertainties x y z D q h =
    let e = in-turn.two-calls u net corrections uncertainties x y z D h in cc

pub two-refused : TwoRefused
two-refused u net corrections uncertainties x y z D r h = (
  λ e. sym (in-turn.place-stops u net corrections uncertainties x y z D e h),
  λ s e. (
    sym (in-turn.lent-refused u net corrections uncertainties x y z D e),
    short u net corrections uncertainties (position_checks u x y z D) (not-placed u x y z D h) e,
  ),
)

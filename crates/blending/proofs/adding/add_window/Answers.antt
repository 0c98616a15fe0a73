-- Before a position every entry has been added and none is a gap.
use mathlib.Core.Path.{◌∙◌, ◌≡◌, ap, ap₂, refl, subst, sym}
use Prim.Native.Nat.{◌*◌, ◌+◌, ◌<◌, ℕ}
use native.Mathlib.Omega.{arith}
use lib.IntN.{ℤ}
use lib.ListN.{length}
use mir.Facts.{to_z-of_z}
use mir.Syntax.{w16}
use mir.Val.{SFits}
use Rattle.sums.proofs.Search.{nowhere-at}
use Rattle.sums.specs.Fill.{number_at, signed_at}
use Rattle.sums.specs.Search.{at}
use Rattle.unit.specs.Gaps.{is_gap}
use Rattle.frame.specs.declared.Frame.{Frame}
use Rattle.window.specs.Window.{gap_of}
use Rattle.std.specs.Prelude.{Some}
use Rattle.window.specs.declared.position.Position.{Position}
use Rattle.blending.proofs.SoFar.{passed, passed-next}
use Rattle.blending.proofs.Steps.{kept-room}
use Rattle.blending.proofs.Sweep.{small-more}
use Rattle.blending.proofs.Turns.{entries-passed, entry_sums_at, turn-first, turn-hit, turn-next}
use Rattle.blending.proofs.Turns.{turn-none, turn-sums, turn-within}
use Rattle.blending.specs.Inner.Frame.{entry_at}
use Rattle.blending.specs.Inner.Search.{window_gaps}
use Rattle.blending.specs.Inner.Sums.{Sums, add_sums, entry_sums, sums_in}
use Rattle.blending.specs.Inner.Window.{Within}
use Rattle.blending.proofs.adding.add_window.Goals as goal
use Rattle.blending.proofs.adding.add_window.Goals.{After-add_entry, After-is_gap, In-loop-at}

-- ---- at a turn

module _ (c : In-loop-at) where
  abbrev frame : Frame
  frame = c.args.f

  abbrev here : Position
  here = c.loop-at.at

  abbrev sums-here : ℕ → Sums
  sums-here = let at = c.loop-at in sums_in at.shares at.shifts at.spreads

  abbrev corrections : ℕ → ℤ
  corrections = signed_at c.args.corrections.now

  -- the index of the entry at hand
  abbrev place : ℕ
  place = entry_at frame here.x here.y here.z

  within : Within frame here
  within = turn-within _ _ _ _ _ c.loop-at.invariant.1 c.loop-at-test.true

  in_block : {i : ℕ} → i ≡ place
      → (i < length c.args.corrections.now) × (i < length c.args.uncertainties.now)
  in_block is =
      let w = within in
      let s = c.requires.in_window.0 in (
        rw is (s.in_corrections _ _ _ w.low_x w.low_y w.low_z),
        rw is (s.in_uncertainties _ _ _ w.low_x w.low_y w.low_z),
      )

-- whether its correction is a gap
module _ (c : After-is_gap) where
  abbrev correction : ℤ
  correction = signed_at c.args.corrections.now c.entry_at-entry.result

  read_fits : SFits w16 correction
  read_fits = record { sfits = c.correction-1.given }

  gap_is : c.is_gap.result
      ≡ is_gap (signed_at c.args.corrections.now
      (let w = c.loop-at.at in entry_at c.args.f w.x w.y w.z))
  gap_is =
      (rw (to_z-of_z read_fits) at c.is_gap.ensures)
      ∙ ap (λ (i : ℕ). is_gap (signed_at c.args.corrections.now i)) c.entry_at-entry.ensures

-- the call has added the sums of the entry at hand
module _ (c : After-add_entry) where
  abbrev measured : ℤ
  measured = signed_at c.args.corrections.now c.entry_at-entry.result

  measured_fits : SFits w16 measured
  measured_fits = record { sfits = c.correction-1.given }

  added : (t : ℕ) → t < 4 * c.args.f.groups
      → (let a = c.args in
      let at = c.loop-at in
      let l = c.add_entry.new in
      sums_in l.shares l.shifts l.spreads t
      ≡ add_sums (sums_in at.shares at.shifts at.spreads t)
      (entry_sums_at (number_at a.net.now) (signed_at a.corrections.now)
      (number_at a.uncertainties.now) a.f (number_at a.offsets.now) at.at t))
  added t h =
      let a = c.args in
      let at = c.loop-at in
      let share : ℕ → ℕ = λ i. number_at a.net.now (i + number_at a.offsets.now t) in
      (rw (to_z-of_z measured_fits) at (c.add_entry.ensures t h))
      ∙ ap₂ (λ (i j : ℕ). add_sums (sums_in at.shares at.shifts at.spreads t)
      (entry_sums (share i) (signed_at a.corrections.now j) (number_at a.uncertainties.now j)))
      c.share_at.ensures c.entry_at-entry.ensures

-- ---- what the code asks for

pub loop-at-init : goal.loop-at-init
loop-at-init c = (
  record { of_shares = refl; of_shifts = refl; of_spreads = refl },
  turn-first _ _ _ _ _ _ c.requires.in_window.0.limits c.requires.by_index,
)

pub entry_at-entry-requires : goal.entry_at-entry-requires
entry_at-entry-requires c = (c.requires.in_window.0.limits, within (goal.at.entry_at-entry-requires c).In-loop-at)

pub offset_bounds-corrections-entry : goal.offset_bounds-corrections-entry
offset_bounds-corrections-entry c = omega (arith, (in_block (goal.at.offset_bounds-corrections-entry c).In-loop-at c.entry_at-entry.ensures).0)

pub bounds-corrections-entry : goal.bounds-corrections-entry
bounds-corrections-entry c = (in_block (goal.at.bounds-corrections-entry c).In-loop-at c.entry_at-entry.ensures).0

pub shape_of-shares-then-is_gap : goal.shape_of-shares-then-is_gap
shape_of-shares-then-is_gap c = c.loop-at.invariant.0.of_shares

pub shape_of-shifts-then-is_gap : goal.shape_of-shifts-then-is_gap
shape_of-shifts-then-is_gap c = c.loop-at.invariant.0.of_shifts

pub shape_of-spreads-then-is_gap : goal.shape_of-spreads-then-is_gap
shape_of-spreads-then-is_gap c = c.loop-at.invariant.0.of_spreads

pub returns-then-is_gap : goal.returns-then-is_gap
returns-then-is_gap c =
    let turn = (goal.at.returns-then-is_gap c).In-loop-at in
    let hit : window_gaps (corrections turn) (frame turn) ≡ at (place turn) =
    turn-hit _ _ _ _ _ (here turn) _ c.loop-at.invariant.1 c.loop-at-test.true
    (sym (gap_is (goal.at.returns-then-is_gap c).After-is_gap) ∙ c.if-is_gap.true) in record {
      gap = ap Some c.entry_at-entry.ensures ∙ sym (ap gap_of hit);
      result_value = ap at c.entry_at-entry.ensures ∙ sym hit;
      t_after = λ n. absurd (nowhere-at (sym n ∙ hit));
      bounded = λ n. absurd (nowhere-at (sym n ∙ hit));
    }

pub share_at-requires : goal.share_at-requires
share_at-requires c = (c.requires.in_window.0.limits, within (goal.at.share_at-requires c).In-loop-at)

pub offset_bounds-uncertainties-entry : goal.offset_bounds-uncertainties-entry
offset_bounds-uncertainties-entry c = omega (arith, (in_block (goal.at.offset_bounds-uncertainties-entry c).In-loop-at c.entry_at-entry.ensures).1)

pub bounds-uncertainties-entry : goal.bounds-uncertainties-entry
bounds-uncertainties-entry c = (in_block (goal.at.bounds-uncertainties-entry c).In-loop-at c.entry_at-entry.ensures).1

pub add_entry-requires : goal.add_entry-requires
add_entry-requires c =
    let w = within (goal.at.add_entry-requires c).In-loop-at in
    let inv = c.loop-at.invariant in
    let few = entries-passed (frame (goal.at.add_entry-requires c).In-loop-at) (here (goal.at.add_entry-requires c).In-loop-at) c.requires.in_window.0.limits w in (
      record {
        few = c.requires.in_window.0.limits.groups_most;
        in_net = λ k h.
            rw c.share_at.ensures
            (c.requires.in_window.0.in_net _ _ _ k w.low_x w.low_y w.low_z h);
        small = λ k h. small-more 4095 (inv.1.small k h) (omega arith);
      },
      kept-room c.requires.in_window.1 inv.0,
    )

pub loop-at-smaller : goal.loop-at-smaller
loop-at-smaller c =
    let f = c.args.f in
    let here = c.loop-at.at in
    let w = within (goal.at.loop-at-smaller c).In-loop-at in
    let limits = c.requires.in_window.0.limits in
    let e = entries-passed f here limits w in
    let one = passed-next f.e1 f.e2 here w.low_x w.low_y in
    let low_z : here.z < 16 = omega (arith, w.low_z, limits.extent3) in
    omega (arith, ap (passed f.e1 f.e2) (c.next-at.ensures low_z), one)

pub loop-at-preserved : goal.loop-at-preserved
loop-at-preserved c =
    let places = goal.at.loop-at-preserved c in
    let inv = c.loop-at.invariant in
    let k = c.add_entry.auto in
    let low_z : c.loop-at.at.z < 16 =
    omega (arith, c.loop-at-test.true, c.requires.in_window.0.limits.extent3) in (
      record {
        of_shares = omega (arith, inv.0.of_shares);
        of_shifts = omega (arith, inv.0.of_shifts);
        of_spreads = omega (arith, inv.0.of_spreads);
      },
      rw (c.next-at.ensures low_z)
          (turn-next _ _ _ _ _ c.loop-at.at _ inv.1 c.loop-at-test.true
          _ (sym (gap_is places.After-is_gap) ∙ c.if-is_gap.false)
          (subst (λ (i : ℕ). SFits w16 (signed_at c.args.corrections.now i)) c.entry_at-entry.ensures
          (read_fits places.After-is_gap))
          (λ i. let known = c.type_inv.net i in omega (arith, known))
          (λ i. let known = c.type_inv.uncertainties i in omega (arith, known))
          (added places.After-add_entry)),
    )

pub shape_of-shares : goal.shape_of-shares
shape_of-shares c = c.loop-at.invariant.0.of_shares

pub shape_of-shifts : goal.shape_of-shifts
shape_of-shifts c = c.loop-at.invariant.0.of_shifts

pub shape_of-spreads : goal.shape_of-spreads
shape_of-spreads c = c.loop-at.invariant.0.of_spreads

pub returns : goal.returns
returns c =
    let last = c.loop-at.invariant.1 in
    let none = turn-none _ _ _ _ _ last c.loop-at-test.false in record {
      gap = sym (ap gap_of none);
      result_value = sym none;
      t_after = λ n. turn-sums _ _ _ _ _ last c.loop-at-test.false;
      bounded = λ n. last.bounded;
    }

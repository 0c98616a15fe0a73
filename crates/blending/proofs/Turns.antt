-- What is known at a turn of the loop over a window, and what a turn more adds to it.
use mathlib.Core.Bool.{false, true}
use mathlib.Core.Path.{◌∙◌, ◌≡◌, ap, refl}
use Prim.Native.Nat.{◌*◌, ◌+◌, ◌<◌, ◌^◌, ◌≤◌, ℕ}
use native.Mathlib.Omega.{arith}
use lib.IntN.{ℤ}
use mir.Syntax.{w16}
use mir.Val.{SFits}
use Rattle.sums.proofs.Places.{box-le, index_in}
use Rattle.sums.specs.Search.{at, nowhere}
use Rattle.unit.specs.Gaps.{is_gap}
use Rattle.frame.specs.declared.Frame.{Frame}
use Rattle.window.specs.Positions.{position, position_after}
use Rattle.window.specs.declared.position.Position.{Position}
use Rattle.blending.proofs.Machine.{measured-size}
use Rattle.blending.proofs.SoFar.{NoneYet, Reached, at-end, found_here, none-next, none_yet, passed}
use Rattle.blending.proofs.SoFar.{passed-next, reached-next, so-far-all, so-far-next, so-far-none}
use Rattle.blending.proofs.SoFar.{so_far}
use Rattle.blending.proofs.Sweep.{bounded-add, bounded-entry, bounded-none, small-add, small-entry}
use Rattle.blending.proofs.Sweep.{small-more, small-none}
use Rattle.blending.specs.Inner.Frame.{FrameLimits, entry_at, share_at}
use Rattle.blending.specs.Inner.Search.{entry_gap, window_gaps}
use Rattle.blending.specs.Inner.Sums.{Bounded, Small, Sums, add_sums, no_sums}
use Rattle.blending.specs.Inner.Window.{Within, position_sums, window_sums}

-- at a position of the window fewer entries have been passed than there are, and these are few
pub entries-passed : (f : Frame) (w : Position) → FrameLimits f → Within f w
    → (passed f.e1 f.e2 w < f.e1 * f.e2 * f.e3) × (f.e1 * f.e2 * f.e3 ≤ 4096)
entries-passed f w l h = (
  index_in f.e1 f.e2 f.e3 _ _ _ h.low_x h.low_y h.low_z,
  box-le l.extent1 l.extent2 l.extent3,
)

module _ (net : ℕ → ℕ) (corrections : ℕ → ℤ) (uncertainties : ℕ → ℕ) (f : Frame) (offset : ℕ → ℕ) where
  -- the sums of the entry at a position, at the local place with number t
  abbrev pub entry_sums_at : Position → ℕ → Sums
  entry_sums_at w t = position_sums net corrections uncertainties f (offset t) w.x w.y w.z

  -- before this position every entry has been added and none is a gap
  pub record Turn (w : Position) (now : ℕ → Sums) : Type 0 where
    pub reached : Reached f.e1 f.e2 f.e3 w
    pub added : (t : ℕ) → t < 4 * f.groups
        → now t ≡ so_far f.e1 f.e2 (position_sums net corrections uncertainties f (offset t)) w
    pub small : (t : ℕ) → t < 4 * f.groups → Small (passed f.e1 f.e2 w) (now t)
    pub bounded : (t : ℕ) → t < 4 * f.groups → Bounded (now t)
    pub none : NoneYet f.e1 f.e2 (entry_gap corrections f) w

  -- a turn's position is in the window while it has not passed the last layer
  pub turn-within : {w : Position} {now : ℕ → Sums} → Turn w now → w.z < f.e3 → Within f w
  turn-within h l = record { low_x = h.reached.low_x; low_y = h.reached.low_y; low_z = l }

  -- the loop begins with sums of nothing at the first position
  pub turn-first : (now : ℕ → Sums) → FrameLimits f → ((t : ℕ) → t < 4 * f.groups → now t ≡ no_sums)
      → Turn (position 0 0 0) now
  turn-first now l e = record {
    reached = record {
      low_x = omega (arith, l.some1);
      low_y = omega (arith, l.some2);
      low_z = omega arith;
      end = λ e. (refl, refl);
    };
    added = λ t h. e t h ∙ so-far-none _ _ _;
    small = λ t h. rw (e t h) (small-more _ small-none (omega arith));
    bounded = λ t h. rw (e t h) bounded-none;
    none = none_yet _ _ _;
  }

  -- past the last layer the sums are those of the window
  pub turn-sums : {w : Position} {now : ℕ → Sums} → Turn w now → f.e3 ≤ w.z
      → (t : ℕ) → t < 4 * f.groups → now t ≡ window_sums net corrections uncertainties f (offset t)
  unfolding window_sums
  turn-sums {w = w} h l t lt =
      h.added t lt
      ∙ ap (so_far f.e1 f.e2 _) (at-end f.e1 f.e2 f.e3 w h.reached l)
      ∙ so-far-all f.e1 f.e2 _ f.e3

  -- and it has no gap
  pub turn-none : {w : Position} {now : ℕ → Sums} → Turn w now → f.e3 ≤ w.z
      → window_gaps corrections f ≡ nowhere
  unfolding window_gaps
  turn-none {w = w} h l =
      let e : w.z ≡ f.e3 = omega (arith, h.reached.low_z) in
      rw e at h.none.layers

  module _ (w : Position) (old : ℕ → Sums) (h : Turn w old) (low_z : w.z < f.e3) where
    abbrev place : ℕ
    place = entry_at f w.x w.y w.z

    -- a gap at this position is the window's first
    pub turn-hit : is_gap (corrections place) ≡ true → window_gaps corrections f ≡ at place
    unfolding window_gaps
    turn-hit gap =
        found_here f.e1 f.e2 (entry_gap corrections f) f.e3 w place h.reached.low_x
        h.reached.low_y low_z h.none (rw gap refl)

    -- an entry that is no gap, added to the sums, makes the next turn
    pub turn-next : (new : ℕ → Sums) → is_gap (corrections place) ≡ false
        → SFits w16 (corrections place)
        → ((i : ℕ) → net i < 2 ^ 32) → ((i : ℕ) → uncertainties i < 2 ^ 16)
        → ((t : ℕ) → t < 4 * f.groups → new t ≡ add_sums (old t) (entry_sums_at w t))
        → Turn (position_after w f.e1 f.e2) new
    turn-next new whole fits shares spreads e =
        let r = h.reached in
        let size = measured-size _ fits whole in
        let share : ℕ → ℕ = λ t. net (share_at f w.x w.y w.z + offset t) in
        let small_one : (t : ℕ) → Small 1 (entry_sums_at w t) = λ t.
        small-entry _ _ _ (shares _) fits (spreads place) in
        let bounded-one : (t : ℕ) → Bounded (entry_sums_at w t) = λ t.
        bounded-entry (share t) (corrections place) (uncertainties place) size (spreads place) in
        record {
          reached = reached-next f.e1 f.e2 f.e3 w r low_z;
          added = λ t l.
              e t l
              ∙ ap (λ (s : Sums). add_sums s (entry_sums_at w t)) (h.added t l)
              ∙ so-far-next f.e1 f.e2 _ w r.low_x r.low_y;
          small = λ t l.
              rw (e t l, passed-next f.e1 f.e2 w r.low_x r.low_y)
              (small-add _ (h.small t l) (small_one t) (omega arith));
          bounded = λ t l. rw (e t l) (bounded-add _ _ (h.bounded t l) (bounded-one t));
          none = none-next f.e1 f.e2 _ w r.low_x r.low_y h.none (rw whole refl);
        }

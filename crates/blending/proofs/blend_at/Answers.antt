-- The sums over the window are the definitions', at the frame of the unit and the placing.
use mathlib.Core.Bool.{true}
use mathlib.Core.Path.{◌∙◌, ◌≡◌, ap, ap₂, refl, sym}
use Prim.Native.Nat.{◌<◌, ℕ}
use native.Mathlib.Nat.{le_refl, lt_of_lt_of_le}
use native.Mathlib.Omega.{arith}
use lib.IntN.{pos, ℤ}
use lib.ListN.{get_or-replicate}
use Rattle.sums.specs.Fill.{number_at, signed_at}
use Rattle.sums.specs.Search.{Found, nowhere}
use Rattle.spline.specs.Multiplicities.{Multiplicities}
use Rattle.checks.proofs.Checks.{at-passed, passed_on, stopped-passed}
use Rattle.unit.specs.Unit.{net_of, sizes}
use Rattle.axis_order.specs.Weights.{placing_cell}
use Rattle.tetrahedron.proofs.LocalPlaces.{ordered_at}
use Rattle.tetrahedron.specs.LocalPlaces.{local_at}
use Rattle.tetrahedron.specs.Unity.{whole_at}
use Rattle.blended.proofs.Answers.{nothing_written, window-passed, window-stopped, window-uneven}
use Rattle.blended.specs.Blend.{Sized, blended_correction_at, blended_uncertainty_at, correction_at}
use Rattle.blended.specs.Blending.{adds_up}
use Rattle.blended.specs.Gaps.{first_gap}
use Rattle.blending.proofs.Searches.{window-gap}
use Rattle.blending.proofs.Sizes.{defined_sums, evened-by, sized-by, written-by}
use Rattle.blending.proofs.Values.{sums-are}
use Rattle.blending.proofs.Windows.{Inside, in-window-of, inside_of, limits_of}
use Rattle.blending.specs.Inner.Frame.{FrameLimits, offset_of}
use Rattle.blending.specs.Inner.Search.{window_gaps}
use Rattle.blending.specs.Inner.Sums.{Sums, sums_in}
use Rattle.blending.specs.Inner.Window.{window_sums}
use Rattle.frame.specs.Frames.{frame_of}
use Rattle.frame.specs.declared.Frame.{Frame}
use Rattle.blending.proofs.blend_at.Goals as goal
use Rattle.blending.proofs.blend_at.Goals.{After-check}
use Rattle.checks.specs.Checks.{no_refusal, refuse_at}
use Rattle.checks.specs.declared.Refusal.TheVariants.{WindowGap}

-- once the window is summed and its gap looked at
module _ (c : After-check) where
  abbrev v : Multiplicities
  v = net_of c.args.unit

  abbrev frame : Frame
  frame = frame_of c.args.unit c.args.q

  abbrev made : Frame
  made = c.framed-f.result

  abbrev corrections : ℕ → ℕ → ℕ → ℤ
  corrections = correction_at (sizes c.args.unit) c.args.lent.corrections.now

  -- the lowest gap of the window
  abbrev gap_of : Found
  gap_of = first_gap v (sizes c.args.unit) corrections (placing_cell c.args.q)

  -- the sums that the code has made
  abbrev left : ℕ → Sums
  left = let l = c.add_window-found.new in sums_in l.shares l.shifts l.spreads

  -- the frame that the code makes is within limits
  limits : (f : Frame) → f ≡ frame → FrameLimits f
  limits f e = rw e (limits_of _ _ _ _ _ c.requires.0)

  frame_is : made ≡ frame
  frame_is = c.framed-f.ensures

  inside : Inside c.args.unit c.args.q
  inside = inside_of _ _ _ _ _ c.requires.0

  gaps-are : (f : Frame) → f ≡ frame
      → window_gaps (signed_at c.args.lent.corrections.now) f ≡ gap_of
  gaps-are f e =
      let a = c.args in
      rw e (window-gap a.unit a.q (signed_at a.lent.corrections.now) inside)

  -- the numbers at a local place
  summed : gap_of ≡ nowhere → (t : ℕ) → t < made.count
      → (let a = c.args in
      left t ≡ defined_sums a.unit a.q a.lent.net.now a.lent.corrections.now a.lent.uncertainties.now t)
  unfolding blended_correction_at blended_uncertainty_at
  summed n t h =
      let a = c.args in
      let o = ordered_at t in
      let offset = c.offsets_of-offsets.ensures.0 t h in
      let in_group = lt_of_lt_of_le h (limits _ frame_is).grouped in
      c.add_window-found.ensures.t_after (gaps-are _ frame_is ∙ n) t in_group
      ∙ ap₂ (window_sums (number_at a.lent.net.now) (signed_at a.lent.corrections.now)
      (number_at a.lent.uncertainties.now))
      frame_is (offset ∙ ap (λ (f : Frame). offset_of f (local_at t)) frame_is)
      ∙ sums-are a.unit a.q (number_at a.lent.net.now) inside c.requires.0.axes (local_at t) o.third
      o.second (signed_at a.lent.corrections.now) (number_at a.lent.uncertainties.now)

  -- a gap is refused
  gap-checked : c.check.result ≡ refuse_at WindowGap gap_of no_refusal
  gap-checked =
      let searched = c.add_window-found.ensures.result_value ∙ gaps-are _ frame_is in
      c.check.ensures ∙ ap (λ (g : Found). refuse_at WindowGap g no_refusal) searched

  -- where it passes, the search found nothing
  none : c.check.result ≡ no_refusal → gap_of ≡ nowhere
  none passed = (at-passed WindowGap _ no_refusal (sym gap-checked ∙ passed)).0

  -- the shares that the code compares are those of the definition
  evened : c.check.result ≡ no_refusal → (let a = c.args in
      whole_at made.m (λ t. (left t).shares) ≡ adds_up v (number_at a.lent.net.now) a.q)
  evened passed =
      let a = c.args in
      evened-by a.unit a.q a.lent.net.now a.lent.corrections.now a.lent.uncertainties.now
      (limits _ refl).degree _ made frame_is (summed (none passed))

  -- with shares that add up, the bounds on the sums are bounds by m!
  sizes-of : c.check.result ≡ no_refusal → (let a = c.args in
      adds_up v (number_at a.lent.net.now) a.q ≡ true
      → Sized a.unit a.lent.net.now a.lent.corrections.now a.lent.uncertainties.now a.q)
  sizes-of passed =
      let a = c.args in
      let free = none passed in
      sized-by a.unit a.q a.lent.net.now a.lent.corrections.now a.lent.uncertainties.now
      (limits _ refl).degree _ made frame_is (summed free)
      (λ t h. c.add_window-found.ensures.bounded (gaps-are _ frame_is ∙ free) t
      (lt_of_lt_of_le h (limits _ frame_is).grouped))

pub offsets_of-offsets-requires : goal.offsets_of-offsets-requires
offsets_of-offsets-requires c = rw c.framed-f.ensures (limits_of _ _ _ _ _ c.requires.0)

pub add_window-found-requires : goal.add_window-found-requires
add_window-found-requires c =
    let framed = c.framed-f.ensures in
    let o = c.offsets_of-offsets.ensures in
    let limits : FrameLimits c.framed-f.result = rw framed (limits_of _ _ _ _ _ c.requires.0) in record {
      in_window = (
        in-window-of _ _ _ _ _ c.requires.0 _ framed _ o.0 o.1,
        record { for_shares = le_refl 220; for_corrections = le_refl 220; for_uncertainties = le_refl 220 },
      );
      by_index = λ t l.
          let h : t < 220 = omega (arith, limits.groups_most) in
          rw (get_or-replicate {A = ℕ} 220 t 0 0 h, get_or-replicate 220 t (pos 0) (pos 0) h) refl;
    }

pub returns-in_err-check : goal.returns-in_err-check
returns-in_err-check c =
    let s = (goal.at.returns-in_err-check c).After-check in
    let a = c.args in
    let stopped = sym (gap-checked s) ∙ c.in_err-check.was in
    let k = passed_on _ c.from_residual.ensures in record {
      value = k
          ∙ sym (window-stopped (v s) (sizes a.unit) (number_at a.lent.net.now) (corrections s) a.q _ refl
          stopped);
      shifts_after = nothing_written _ a.unit a.shifts.now k;
      spreads_after = nothing_written _ a.unit a.spreads.now k;
      sized = λ h. stopped-passed _ (sym k ∙ h);
    }

pub returns-then-not-adds_up : goal.returns-then-not-adds_up
returns-then-not-adds_up c =
    let s = (goal.at.returns-then-not-adds_up c).After-check in
    let a = c.args in
    let passed = c.in_ok-check.was in
    let uneven = sym (evened s passed) ∙ sym c.adds_up.ensures ∙ c.if-not-adds_up.true in
    record {
      value = sym (window-uneven (v s) (sizes a.unit) (number_at a.lent.net.now) (corrections s) a.q
          (none s passed) uneven);
      shifts_after = nothing_written _ a.unit a.shifts.now refl;
      spreads_after = nothing_written _ a.unit a.spreads.now refl;
      sized = λ h. stopped-passed _ h;
    }

pub hand_over-requires : goal.hand_over-requires
hand_over-requires c =
    let s = (goal.at.hand_over-requires c).After-check in
    ((limits s _ (frame_is s)).places, c.requires.1, c.requires.2)

pub returns : goal.returns
returns c =
    let s = (goal.at.returns c).After-check in
    let a = c.args in
    let passed = c.in_ok-check.was in
    let free = none s passed in
    let even = sym (evened s passed) ∙ sym c.adds_up.ensures ∙ c.if-not-adds_up.false in record {
      value = sym (window-passed (v s) (sizes a.unit) (number_at a.lent.net.now) (corrections s) a.q free
          even);
      shifts_after = c.hand_over.ensures.shifts_after ∙ written-by a.unit a.q (made s) _ _ _ (frame_is s)
          (λ t l. ap (λ (s : Sums). s.corrections) (summed s free t l));
      spreads_after = c.hand_over.ensures.spreads_after ∙ written-by a.unit a.q (made s) _ _ _ (frame_is s)
          (λ t l. ap (λ (s : Sums). s.uncertainties) (summed s free t l));
      sized = λ h. sizes-of s passed even;
    }

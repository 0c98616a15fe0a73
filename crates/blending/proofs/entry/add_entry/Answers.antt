-- After g turns the first 4×g places have their shares added, the others not yet.
use mathlib.Core.List.{List}
use mathlib.Core.Path.{◌∙◌, ◌≡◌, ap, refl}
use Prim.Native.Nat.{◌*◌, ◌+◌, ◌-◌, ◌<◌, ◌≤◌, ℕ}
use native.Mathlib.Omega.{arith}
use lib.IntN.{ℤ}
use mir.Facts.{to_z-of_z}
use mir.Syntax.{w16}
use mir.Val.{of_z, to_z}
use Rattle.sums.specs.Fill.{number_at}
use Rattle.blending.proofs.Steps.{added-cong, added_none, added-on, kept-room}
use Rattle.blending.specs.Inner.Sums.{Sums, entry_sums, sums_in}
use Rattle.blending.specs.Inner.Window.{AddedIn}
use Rattle.blending.proofs.entry.add_entry.Goals as goal
use Rattle.blending.proofs.entry.add_entry.Invariants.{adds-at, share-at}

-- four shares that were read are those of their places
four-added : (g : ℕ) (four : List ℕ) (share : ℕ → ℕ) (correction : ℤ) (uncertainty : ℕ) (s0 s1 : ℕ → Sums)
    → ((i : ℕ) → i < 4 → number_at four i ≡ share (4 * g + i))
    → AddedIn (4 * g) (4 * g + 4) (λ t. entry_sums (number_at four (t - 4 * g)) correction uncertainty) s0 s1
    → AddedIn (4 * g) (4 * (g + 1)) (λ t. entry_sums (share t) correction uncertainty) s0 s1
four-added g four share correction uncertainty s0 s1 read h =
    let end : 4 * g + 4 ≡ 4 * (g + 1) = omega arith in
    let here : (t : ℕ) → 4 * g ≤ t → t < 4 * g + 4 → number_at four (t - 4 * g) ≡ share t = λ t l m.
    let back : 4 * g + (t - 4 * g) ≡ t = omega arith in
    read (t - 4 * g) (omega arith) ∙ ap share back in
    rw end at
    (added-cong (λ t. entry_sums (share t) correction uncertainty) (4 * g) (4 * g + 4) _ s0 s1
    (λ t l m. ap (λ (v : ℕ). entry_sums v correction uncertainty) (here t l m)) h)

pub loop-g-init : goal.loop-g-init
loop-g-init c = (
  record { of_shares = refl; of_shifts = refl; of_spreads = refl },
  added_none _ 0 (4 * 0) _ (omega arith),
)

pub overflow_mul-t : goal.overflow_mul-t
overflow_mul-t c = omega (arith, c.requires.0.few)

pub four_at-four-requires : goal.four_at-four-requires
four_at-four-requires c = (
  omega (arith, c.requires.0.few),
  λ i l. c.requires.0.in_net (4 * c.loop-g.g + i) (omega arith),
)

pub add_four-requires : goal.add_four-requires
add_four-requires c = (
  omega (arith, c.requires.0.few),
  kept-room c.requires.1 c.loop-g.invariant.0,
  λ i h k. rw (c.loop-g.invariant.1.after i h) (c.requires.0.small i (omega arith)),
)

pub loop-g-preserved : goal.loop-g-preserved
loop-g-preserved c =
    let at = c.loop-g in
    let a = c.args in
    let correction = to_z w16 (of_z w16 a.correction) in
    let share = share-at a.net.now a.offsets.now a.share in
    let adds = adds-at a.net.now a.offsets.now a.share correction a.uncertainty in
    let first = sums_in a.shares.now a.shifts.now a.spreads.now in
    let so_far = sums_in at.shares at.shifts at.spreads in
    let left = c.add_four.new in
    let now = sums_in left.shares left.shifts left.spreads in
    let k = c.add_four.auto in (
      record {
        of_shares = omega (arith, at.invariant.0.of_shares);
        of_shifts = omega (arith, at.invariant.0.of_shifts);
        of_spreads = omega (arith, at.invariant.0.of_spreads);
      },
      added-on adds 0 (4 * at.g) (4 * (at.g + 1)) first so_far now (omega arith) (omega arith) at.invariant.1
          (four-added at.g c.four_at-four.result share correction a.uncertainty so_far now
          c.four_at-four.ensures c.add_four.ensures),
    )

pub shape_of-shares : goal.shape_of-shares
shape_of-shares c = c.loop-g.invariant.0.of_shares

pub shape_of-shifts : goal.shape_of-shifts
shape_of-shifts c = c.loop-g.invariant.0.of_shifts

pub shape_of-spreads : goal.shape_of-spreads
shape_of-spreads c = c.loop-g.invariant.0.of_spreads

pub returns : goal.returns
returns c =
    let at = c.loop-g in
    let e : at.g ≡ c.args.groups = omega arith in
    λ t l. rw (to_z-of_z c.ranges.correction) at (at.invariant.1.inside t (omega arith) (omega arith))

-- Four shares of 0 add nothing; else after i turns the first i of the four have been added.
use mathlib.Core.List.{List}
use mathlib.Core.Path.{◌≡◌, ap, refl}
use Prim.Native.Nat.{◌+◌, ◌-◌, ◌<◌, ◌≤◌, suc, zero, ℕ}
use native.Mathlib.Omega.{arith}
use borrow.Author.Tests.{eqb-true}
use lib.IntN.{ℤ}
use mir.Facts.{to_z-of_z}
use mir.Syntax.{w16}
use mir.Val.{of_z, to_z}
use Rattle.sums.specs.Fill.{number_at}
use Rattle.blending.proofs.Steps.{added-cong, added_none, added-nothing, added-on, kept-room}
use Rattle.blending.specs.Inner.Sums.{Sums, entry_sums, sums_in}
use Rattle.blending.specs.Inner.Window.{AddedIn}
use Rattle.blending.proofs.entry.add_four.Goals as goal
use Rattle.blending.proofs.entry.add_four.Invariants.{share-at}

-- each of four numbers is 0 where their sum is
each-zero : (f : ℕ → ℕ) → f 0 + f 1 + f 2 + f 3 ≡ 0 → (i : ℕ) → i < 4 → f i ≡ 0
each-zero f e zero l = omega arith
each-zero f e (suc zero) l = omega arith
each-zero f e (suc (suc zero)) l = omega arith
each-zero f e (suc (suc (suc zero))) l = omega arith
each-zero f e (suc (suc (suc (suc i)))) l = absurd (omega arith)

-- the share of one turn stands at its place among the four
one-added : (t i : ℕ) (four : List ℕ) (correction : ℤ) (uncertainty : ℕ) (s0 s1 : ℕ → Sums)
    → AddedIn (t + i) (t + i + 1) (λ j. entry_sums (number_at four i) correction uncertainty) s0 s1
    → AddedIn (t + i) (t + (i + 1)) (share-at t four correction uncertainty) s0 s1
one-added t i four correction uncertainty s0 s1 h =
    let end : t + i + 1 ≡ t + (i + 1) = omega arith in
    let here : (j : ℕ) → t + i ≤ j → j < t + i + 1 → i ≡ j - t = λ j l m. omega arith in
    rw end at
    (added-cong (share-at t four correction uncertainty) (t + i) (t + i + 1) _ s0 s1
    (λ j l m. ap (λ (k : ℕ). entry_sums (number_at four k) correction uncertainty) (here j l m)) h)

pub returns-then-all_zero : goal.returns-then-all_zero
returns-then-all_zero c =
    let a = c.args in
    let sum = eqb-true _ _ (rw c.all_zero.ensures at c.if-all_zero.true) in
    let none = each-zero (number_at a.four) sum in
    added-nothing a.t (a.t + 4) (λ i. number_at a.four (i - a.t)) a.correction a.uncertainty _
    (λ i l m. none (i - a.t) (omega arith))

pub loop-i-init : goal.loop-i-init
loop-i-init c =
    let t = c.args.t in (
      record { of_shares = refl; of_shifts = refl; of_spreads = refl },
      added_none _ t (t + 0) _ (omega arith),
    )

pub add_share-requires : goal.add_share-requires
add_share-requires c =
    let at = c.loop-i in
    let i = c.args.t + at.i in
    let same = at.invariant.1.after i (omega arith) in
    (omega arith, kept-room c.requires.1 at.invariant.0, rw same (c.requires.2 i (omega arith) (omega arith)))

pub loop-i-preserved : goal.loop-i-preserved
loop-i-preserved c =
    let at = c.loop-i in
    let a = c.args in
    let correction = to_z w16 (of_z w16 a.correction) in
    let share = share-at a.t a.four correction a.uncertainty in
    let first = sums_in a.shares.now a.shifts.now a.spreads.now in
    let so_far = sums_in at.shares at.shifts at.spreads in
    let left = c.add_share.new in
    let now = sums_in left.shares left.shifts left.spreads in
    let k = c.add_share.auto in (
      record {
        of_shares = omega (arith, at.invariant.0.of_shares);
        of_shifts = omega (arith, at.invariant.0.of_shifts);
        of_spreads = omega (arith, at.invariant.0.of_spreads);
      },
      added-on share a.t (a.t + at.i) (a.t + (at.i + 1)) first so_far now (omega arith) (omega arith)
          at.invariant.1
          (one-added a.t at.i a.four correction a.uncertainty so_far now c.add_share.ensures),
    )

pub shape_of-shares : goal.shape_of-shares
shape_of-shares c = c.loop-i.invariant.0.of_shares

pub shape_of-shifts : goal.shape_of-shifts
shape_of-shifts c = c.loop-i.invariant.0.of_shifts

pub shape_of-spreads : goal.shape_of-spreads
shape_of-spreads c = c.loop-i.invariant.0.of_spreads

pub returns : goal.returns
returns c =
    let at = c.loop-i in
    let e : at.i ≡ 4 = omega arith in
    rw (to_z-of_z c.ranges.correction, e) at at.invariant.1

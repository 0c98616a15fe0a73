-- After t turns the sum is that of the first t local places, and the local place is the t-th.
use mathlib.Core.Path.{◌∙◌, ◌≡◌, ap, ap₂}
use Prim.Native.Nat.{◌-◌, ◌<◌}
use native.Mathlib.Omega.{arith}
use mir.Facts.{to_z-of_z}
use mir.Syntax.{w64}
use mir.Val.{SFits}
use Rattle.sums.proofs.Coefficient.{factorial-nine}
use Rattle.sums.specs.Fill.{number_at, signed_at}
use Rattle.binomials.proofs.Binomials.{table-held}
use Rattle.answers.specs.Bernstein.{term_weight}
use Rattle.parts.proofs.Parts.{next-numerator, next-uncertainty, parts_next, parts_none, shift-size}
use Rattle.parts.proofs.Parts.{shift-weighed, spread-weighed}
use Rattle.parts.proofs.Weights.{powers-within}
use Rattle.parts.specs.Parts.{add_parts, first_parts, weighed}
use Rattle.parts.specs.Weights.{weight_at}
use Rattle.tetrahedron.proofs.LocalPlaces.{local-next, ordered_at}
use Rattle.tetrahedron.proofs.Numbers.{count_most, degree-at}
use Rattle.tetrahedron.specs.LocalPlaces.{local_places}
use Rattle.tetrahedron.specs.declared.local.LocalPlace.{LocalPlace}
use Rattle.point.proofs.bernstein.bernstein_sums.Goals as goal
use Rattle.point.proofs.bernstein.bernstein_sums.Goals.{After-term, After-weight-w, In-loop-t}

-- the local place at hand is one of the degree's
listed : (i : In-loop-t) → i.loop-t.t < local_places i.args.m
listed i = rw i.local_places-count.ensures at i.loop-t-test.true

-- and so one of the arrays'
room : (i : In-loop-t) → i.loop-t.t < 220
room i =
    omega (arith, listed i, count_most i.args.m i.requires.0.degree)

-- its weight, and its part of the sums
weight-of : (c : After-weight-w) → (c.weight-w.result ≡ weight_at c.args.m c.args.q c.loop-t.t)
unfolding weight_at
weight-of c =
    let m = c.args.m in
    c.weight-w.ensures.0
    ∙ ap (λ (k : LocalPlace). term_weight m c.args.q (m - k.p) (k.p - k.r) (k.r - k.s) k.s)
    c.loop-t.invariant.0

term_is : (c : After-term) → (let a = c.args in
    c.term.result
    ≡ weighed (signed_at a.shifts.now c.loop-t.t) (number_at a.spreads.now c.loop-t.t)
    (weight_at a.m a.q c.loop-t.t))
term_is c =
    let a = c.args in
    let fits : SFits w64 (signed_at a.shifts.now c.loop-t.t)
    = record { sfits = c.term-arg-1.given } in
    rw (to_z-of_z fits) at c.term.ensures
    ∙ ap (weighed (signed_at a.shifts.now c.loop-t.t) (number_at a.spreads.now c.loop-t.t))
    (weight-of c.before.before.before.before.before)

pub powers-x0-requires : goal.powers-x0-requires
powers-x0-requires c = powers-within c.args.m c.args.q c.requires.0 _ (omega arith)

pub powers-x1-requires : goal.powers-x1-requires
powers-x1-requires c = powers-within c.args.m c.args.q c.requires.0 _ (omega arith)

pub powers-x2-requires : goal.powers-x2-requires
powers-x2-requires c = powers-within c.args.m c.args.q c.requires.0 _ (omega arith)

pub powers-x3-requires : goal.powers-x3-requires
powers-x3-requires c = powers-within c.args.m c.args.q c.requires.0 _ (omega arith)

pub invariant_of-weights : goal.invariant_of-weights
invariant_of-weights c = record {
  scaled = c.requires.0;
  binomials = rw c.table-table.ensures table-held;
  powers = record {
    of0 = c.powers-x0.ensures;
    of1 = c.powers-x1.ensures;
    of2 = c.powers-x2.ensures;
    of3 = c.powers-x3.ensures;
  };
}

pub loop-t-init : goal.loop-t-init
loop-t-init c = (c.first-l.ensures, parts_none _ _ _ _)

pub weight-w-requires : goal.weight-w-requires
weight-w-requires c =
    let o = ordered_at c.loop-t.t in
    let h = listed (goal.at.weight-w-requires c).In-loop-t in
    rw c.loop-t.invariant.0 (record {
      third = o.third;
      second = o.second;
      first = degree-at c.args.m c.loop-t.t c.requires.0.degree h;
    })

pub offset_bounds-shifts-t : goal.offset_bounds-shifts-t
offset_bounds-shifts-t c = omega (arith, room (goal.at.offset_bounds-shifts-t c).In-loop-t)

pub bounds-shifts-t : goal.bounds-shifts-t
bounds-shifts-t c = room (goal.at.bounds-shifts-t c).In-loop-t

pub offset_bounds-spreads-t : goal.offset_bounds-spreads-t
offset_bounds-spreads-t c = omega (arith, room (goal.at.offset_bounds-spreads-t c).In-loop-t)

pub bounds-spreads-t : goal.bounds-spreads-t
bounds-spreads-t c = room (goal.at.bounds-spreads-t c).In-loop-t

pub term-requires : goal.term-requires
term-requires c =
    let shift = signed_at c.args.shifts.now in
    let fits : SFits w64 (shift c.loop-t.t) = record { sfits = c.term-arg-1.given } in
    let weight = weight-of (goal.at.term-requires c).After-weight-w in
    let h = listed (goal.at.term-requires c).In-loop-t in
    let small = shift-size c.requires.0 c.requires.1 c.loop-t.t h in
    rw (to_z-of_z fits, weight) (
      omega (arith, small, factorial-nine c.args.m c.requires.0.degree),
      shift-weighed c.requires.0 c.requires.1 c.loop-t.t h,
      omega (arith, rw weight at c.weight-w.ensures.1),
      spread-weighed c.requires.0 c.requires.1 c.loop-t.t h,
    )

pub joined-sum-requires : goal.joined-sum-requires
joined-sum-requires c =
    let h = listed (goal.at.joined-sum-requires c).In-loop-t in
    rw (c.loop-t.invariant.1, term_is (goal.at.joined-sum-requires c).After-term) (
      next-numerator c.requires.0 c.requires.1 c.loop-t.t h,
      next-uncertainty c.requires.0 c.requires.1 c.loop-t.t h,
    )

pub loop-t-preserved : goal.loop-t-preserved
loop-t-preserved c =
    let a = c.args in
    let at = c.loop-t in (
      local-next at.t c.next-l.ensures at.invariant.0,
      c.joined-sum.ensures
          ∙ ap₂ add_parts at.invariant.1 (term_is (goal.at.loop-t-preserved c).After-term)
          ∙ parts_next a.m a.q (signed_at a.shifts.now) (number_at a.spreads.now) at.t,
    )

pub returns : goal.returns
returns c =
    let a = c.args in
    let e : c.loop-t.t ≡ local_places a.m
    = omega (arith, c.local_places-count.ensures) in
    c.loop-t.invariant.1
    ∙ ap (first_parts a.m a.q (signed_at a.shifts.now) (number_at a.spreads.now)) e

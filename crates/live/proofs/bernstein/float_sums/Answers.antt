-- After t turns the floats are the sums of the first t terms, and the local place is the t-th.
use mathlib.Core.Path.{◌∙◌, ◌≡◌, ap}
use Prim.Native.Nat.{◌-◌, ◌<◌, ℕ}
use native.Mathlib.Omega.{arith}
use lib.IntN.{pos}
use Rattle.sums.specs.Fill.{number_at, signed_at}
use Rattle.floats.proofs.Totals.{sum-none}
use Rattle.floats.specs.Floats.{float}
use Rattle.answers.specs.Bernstein.{term_weight}
use Rattle.parts.specs.Weights.{weight_at}
use Rattle.live.proofs.Turns.{next-numerator, next-uncertainty, sized}
use Rattle.tetrahedron.proofs.LocalPlaces.{local-next, ordered_at}
use Rattle.tetrahedron.proofs.Numbers.{count-least, count_most, degree-at}
use Rattle.tetrahedron.specs.LocalPlaces.{local_places}
use Rattle.tetrahedron.specs.declared.local.LocalPlace.{LocalPlace}
use Rattle.live.proofs.Sizes as sizes
use Rattle.live.proofs.bernstein.float_sums.Goals as goal
use Rattle.live.proofs.bernstein.float_sums.Goals.{After-weight-w, In-loop-t, Start}

-- there is a first local place
first-listed : (s : Start) → 0 < local_places s.args.m
first-listed s = count-least s.args.m s.requires.0.degree

-- the local place at hand is one of the degree's
listed : (i : In-loop-t) → i.loop-t.t < local_places i.args.m
listed i = rw i.local_places-count.ensures at i.loop-t-test.true

-- and so one of the arrays'
room : (i : In-loop-t) → i.loop-t.t < 220
room i = omega (arith, listed i, count_most i.args.m i.requires.0.degree)

-- the weight that a turn makes is that of its local place
weight-of : (c : After-weight-w)
    → c.weight-w.result ≡ float (pos (weight_at c.args.m c.args.q c.loop-t.t))
unfolding weight_at
weight-of c =
    let m = c.args.m in
    c.weight-w.ensures
    ∙ ap
    (λ (k : LocalPlace).
    float (pos (term_weight m c.args.q (m - k.p) (k.p - k.r) (k.r - k.s) k.s)))
    c.loop-t.invariant.0

pub term-first-requires : goal.term-first-requires
term-first-requires c =
    let p = c.requires in
    sized p.0 p.1 p.2 0 (first-listed (goal.at.term-first-requires c).Start)

pub invariant_of-weights : goal.invariant_of-weights
invariant_of-weights c =
    let q = c.args.q in
    let scaled = c.requires.0 in record {
      scaled = scaled;
      binomials = c.table-table.ensures;
      powers = record {
        of0 = sizes.powers-tabled scaled q.l0 (omega arith) c.powers-x0.ensures.table;
        of1 = sizes.powers-tabled scaled q.l1 (omega arith) c.powers-x1.ensures.table;
        of2 = sizes.powers-tabled scaled q.l2 (omega arith) c.powers-x2.ensures.table;
        of3 = sizes.powers-tabled scaled q.l3 (omega arith) c.powers-x3.ensures.table;
      };
    }

pub loop-t-init : goal.loop-t-init
loop-t-init c =
    let first = first-listed (goal.at.loop-t-init c).Start in
    let p = c.requires in
    let powers = sizes.powers-tabled p.0 c.args.q.l0 (omega arith) c.powers-x0.ensures.table in
    let weight = powers c.args.m (omega arith)
    ∙ ap (λ (n : ℕ). float (pos n)) (sizes.first-weight c.args.m c.args.q) in (
      local-next 0 c.next-l.ensures c.first.ensures,
      next-numerator p.0 p.1 p.2 0 first weight (sum-none _ (signed_at c.args.shifts.now) _)
          c.term-first.ensures.0,
      next-uncertainty p.0 p.1 p.2 0 first weight
          (sum-none _ (λ i. pos (number_at c.args.spreads.now i)) _) c.term-first.ensures.1,
    )

pub weight-w-requires : goal.weight-w-requires
weight-w-requires c =
    let o = ordered_at c.loop-t.t in
    let h = listed (goal.at.weight-w-requires c).In-loop-t in
    rw c.loop-t.invariant.0 (record {
      third = o.third;
      second = o.second;
      first = degree-at c.args.m c.loop-t.t c.requires.0.degree h;
    })

pub offset_bounds-shifts-t : goal.offset_bounds-shifts-t
offset_bounds-shifts-t c = omega (arith, room (goal.at.offset_bounds-shifts-t c).In-loop-t)

pub bounds-shifts-t : goal.bounds-shifts-t
bounds-shifts-t c = room (goal.at.bounds-shifts-t c).In-loop-t

pub offset_bounds-spreads-t : goal.offset_bounds-spreads-t
offset_bounds-spreads-t c = omega (arith, room (goal.at.offset_bounds-spreads-t c).In-loop-t)

pub bounds-spreads-t : goal.bounds-spreads-t
bounds-spreads-t c = room (goal.at.bounds-spreads-t c).In-loop-t

pub term-part-requires : goal.term-part-requires
term-part-requires c =
    let p = c.requires in
    sized p.0 p.1 p.2 c.loop-t.t (listed (goal.at.term-part-requires c).In-loop-t)

pub loop-t-preserved : goal.loop-t-preserved
loop-t-preserved c =
    let places = goal.at.loop-t-preserved c in
    let weight = weight-of places.After-weight-w in
    let h = listed places.In-loop-t in
    let p = c.requires in
    let at = c.loop-t in (
      local-next at.t c.next-l-in-loop-t.ensures at.invariant.0,
      next-numerator p.0 p.1 p.2 at.t h weight at.invariant.1 c.term-part.ensures.0,
      next-uncertainty p.0 p.1 p.2 at.t h weight at.invariant.2 c.term-part.ensures.1,
    )

pub returns : goal.returns
returns c =
    let e : c.loop-t.t ≡ local_places c.args.m
    = omega (arith, c.local_places-count.ensures, count-least c.args.m c.requires.0.degree) in (
      sizes.numerator-float c.requires.0 c.requires.1 c.requires.2 (rw e at c.loop-t.invariant.1),
      sizes.uncertainty-float c.requires.0 c.requires.1 c.requires.2 (rw e at c.loop-t.invariant.2),
    )

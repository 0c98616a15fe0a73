-- Up to the index that the three loops have reached the lists agree; at the first that differs all are left.
use mathlib.Core.Bool.{Bool, not}
use mathlib.Core.Path.{◌∙◌, ap, refl, subst, sym}
use Prim.Native.Nat.{◌*◌, ◌+◌, ◌<◌, ◌≤◌, ℕ}
use native.Mathlib.Nat.{le_antisymm, mul_assoc}
use native.Mathlib.Omega.{arith}
use borrow.Author.Tests.{eq-eqb, ne_eqb}
use lib.ListN.{get_or}
use Rattle.sums.proofs.Places.{box-le, index_in, next-layer, next_row}
use Rattle.sums.proofs.Search.{first-hit, first-none, first-zero}
use Rattle.sums.specs.Search.{first}
use Rattle.spline.specs.Box.{places}
use Rattle.shape.specs.Shape.{widths}
use Rattle.shape.specs.declared.Shape.{Shape}
use Rattle.comparison.specs.Compare.{differs}
use Rattle.comparison.proofs.first_differing.Goals as goal
use Rattle.comparison.proofs.first_differing.Goals.{In-loop-x}
use Rattle.checks.specs.Checks.{no_refusal, refuse_at}
use Rattle.checks.specs.declared.Refusal.TheVariants.{Differing}

-- in a turn: the place's index is within the box
module _ (c : In-loop-x) where
  abbrev s : Shape
  s = c.args.s

  -- the two numbers that are compared
  abbrev ours : ℕ
  ours = get_or c.args.net.now c.loop-x.i 0

  abbrev theirs : ℕ
  theirs = get_or c.args.defined.now c.loop-x.i 0

  abbrev test : ℕ → Bool
  test = differs c.args.net.now c.args.defined.now

  within : (c.loop-x.i < places (widths s)) × (places (widths s) ≤ 753571)
  within =
      let b = c.requires.0 in
      let x = c.loop-x.x in
      let y = c.loop-y.y in
      let z = c.places.z in (
        subst (λ (n : ℕ). n < places (widths s)) (sym c.loop-x.invariant.2)
            (index_in s.w1 s.w2 s.w3 x y z (omega arith) (omega arith) (omega arith)),
        box-le b.most1 b.most2 b.most3,
      )

pub places-init : goal.places-init
places-init c = (refl, omega arith, omega arith, first-zero _)

pub loop-y-init : goal.loop-y-init
loop-y-init c = let l = c.places.invariant in (l.0, omega arith, omega (arith, l.2), l.3)

pub loop-x-init : goal.loop-x-init
loop-x-init c = let l = c.loop-y.invariant in (l.0, omega arith, omega (arith, l.2), l.3)

pub offset_bounds-net-i : goal.offset_bounds-net-i
offset_bounds-net-i c = omega (arith, within (goal.at.offset_bounds-net-i c).In-loop-x)

pub bounds-net-i : goal.bounds-net-i
bounds-net-i c = omega (arith, within (goal.at.bounds-net-i c).In-loop-x, c.requires.1)

pub offset_bounds-defined-i : goal.offset_bounds-defined-i
offset_bounds-defined-i c = omega (arith, within (goal.at.offset_bounds-defined-i c).In-loop-x)

pub bounds-defined-i : goal.bounds-defined-i
bounds-defined-i c = omega (arith, within (goal.at.bounds-defined-i c).In-loop-x, c.requires.2)

pub overflow_add-i : goal.overflow_add-i
overflow_add-i c = omega (arith, within (goal.at.overflow_add-i c).In-loop-x)

pub overflow_step-x : goal.overflow_step-x
overflow_step-x c = omega arith

pub loop-x-smaller : goal.loop-x-smaller
loop-x-smaller c = omega arith

pub loop-x-preserved : goal.loop-x-preserved
loop-x-preserved c =
    let t = (goal.at.loop-x-preserved c).In-loop-x in
    let l = c.loop-x in
    let e = ap not (eq-eqb (ours t) (theirs t) c.if-net-i.false) in
    (l.invariant.0, omega arith, omega (arith, l.invariant.2), first-none (test t) l.i l.invariant.3 e)

pub overflow_step-y : goal.overflow_step-y
overflow_step-y c = omega arith

pub loop-y-smaller : goal.loop-y-smaller
loop-y-smaller c = omega arith

pub loop-y-preserved : goal.loop-y-preserved
loop-y-preserved c =
    let l = c.loop-x in
    let a = c.args in
    let y = c.loop-y.y in
    let z = c.places.z in
    let row = next_row a.s.w1 a.s.w2 y z in
    let end = le_antisymm l.invariant.1 c.loop-x-test.false in
    (l.invariant.0, omega arith, omega (arith, l.invariant.2, row, end), l.invariant.3)

pub overflow_step-z : goal.overflow_step-z
overflow_step-z c = omega arith

pub places-smaller : goal.places-smaller
places-smaller c = omega arith

pub places-preserved : goal.places-preserved
places-preserved c =
    let l = c.loop-y in
    let a = c.args in
    let z = c.places.z in
    let end = le_antisymm l.invariant.1 c.loop-y-test.false in (
      l.invariant.0,
      omega arith,
      l.invariant.2
          ∙ ap (λ (k : ℕ). a.s.w1 * (k + a.s.w2 * z)) end
          ∙ next-layer a.s.w1 a.s.w2 z,
      l.invariant.3,
    )

pub returns-after-places : goal.returns-after-places
returns-after-places c =
    let l = c.places in
    let a = c.args in
    let end = le_antisymm l.invariant.1 c.places-test.false in
    let whole = ap (λ (k : ℕ). a.s.w1 * (a.s.w2 * k)) end in
    let e = l.invariant.2 ∙ whole ∙ sym (mul_assoc a.s.w1 a.s.w2 a.s.w3) in
    let none = ap (λ (n : ℕ). first n (differs a.net.now a.defined.now)) (sym e) ∙ l.invariant.3 in
    l.invariant.0 ∙ sym (ap (λ f. refuse_at Differing f no_refusal) none)

pub returns-then-net-i : goal.returns-then-net-i
returns-then-net-i c =
    let t = (goal.at.returns-then-net-i c).In-loop-x in
    let l = c.loop-x in
    let e = ap not (ne_eqb (ours t) (theirs t) c.if-net-i.true) in
    let hit = first-hit (test t) (places (widths c.args.s)) l.i l.invariant.3 e (within t).0 in
    sym (ap (λ f. refuse_at Differing f no_refusal) hit)

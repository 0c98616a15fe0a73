-- After t turns the first t offsets are listed, and the local place is the t-th.
use mathlib.Core.Path.{◌∙◌, ◌≡◌, ap, refl}
use Prim.Native.Nat.{◌*◌, ◌<◌, ◌≤◌, ℕ}
use native.Mathlib.Nat.{mul-le-mul}
use native.Mathlib.Omega.{arith}
use borrow.Author.Count.{below_more}
use lib.ListN.{get_or-replicate, length-set, set}
use lib.Seq.{get_or-set_other, get_or-set_same}
use Rattle.sums.specs.Fill.{number_at}
use Rattle.tetrahedron.proofs.LocalPlaces.{local-next, ordered_at}
use Rattle.tetrahedron.specs.LocalPlaces.{local_at}
use Rattle.blending.specs.Inner.Frame.{offset_of}
use Rattle.blending.proofs.adding.offsets_of.Goals as goal
use Rattle.blending.proofs.adding.offsets_of.Goals.{In-loop-t}

-- each step times a number up to 9
products : (c : In-loop-t) → (let f = c.args.f in
    let l = c.loop-t.l in
    (f.s1 * l.p ≤ 74529) × (f.s2 * l.r ≤ 74529) × (f.s3 * l.s ≤ 74529))
products c =
    let h = c.requires in
    let at = c.loop-t in
    let o = rw (← at.invariant.1) at (ordered_at at.t) in
    let p : at.l.p ≤ 9 = omega arith in
    let r : at.l.r ≤ 9 = omega arith in
    let s : at.l.s ≤ 9 = omega arith in
    (mul-le-mul h.step1 p, mul-le-mul h.step2 r, mul-le-mul h.step3 s)

pub loop-t-init : goal.loop-t-init
loop-t-init c = (
  refl,
  c.first-l.ensures,
  λ i l. absurd (omega arith),
  λ i h l. get_or-replicate 220 i 0 0 l,
)

pub overflow_mul-offsets : goal.overflow_mul-offsets
overflow_mul-offsets c =
    let m = products (goal.at.overflow_mul-offsets c).In-loop-t in omega arith

pub overflow_mul-offsets-in-loop-t : goal.overflow_mul-offsets-in-loop-t
overflow_mul-offsets-in-loop-t c =
    let m = products (goal.at.overflow_mul-offsets-in-loop-t c).In-loop-t in omega arith

pub overflow_add-offsets : goal.overflow_add-offsets
overflow_add-offsets c =
    let m = products (goal.at.overflow_add-offsets c).In-loop-t in omega arith

pub overflow_mul-offsets-in-loop-t-2 : goal.overflow_mul-offsets-in-loop-t-2
overflow_mul-offsets-in-loop-t-2 c =
    let m = products (goal.at.overflow_mul-offsets-in-loop-t-2 c).In-loop-t in omega arith

pub overflow_add-offsets-in-loop-t : goal.overflow_add-offsets-in-loop-t
overflow_add-offsets-in-loop-t c =
    let m = products (goal.at.overflow_add-offsets-in-loop-t c).In-loop-t in omega arith

pub loop-t-preserved : goal.loop-t-preserved
loop-t-preserved c =
    let at = c.loop-t in
    let f = c.args.f in
    let room : at.t < 220 = omega (arith, c.requires.places) in
    let v = offset_of f at.l in
    let here : number_at (set at.offsets at.t v) at.t ≡ offset_of f (local_at at.t)
    = get_or-set_same at.offsets at.t v 0 (omega (arith, at.invariant.0)) ∙ ap (offset_of f) at.invariant.1 in
    let others : (i : ℕ) → i < at.t → number_at (set at.offsets at.t v) i ≡ offset_of f (local_at i)
    = λ i h. get_or-set_other at.offsets at.t i v 0 (λ e. omega arith) ∙ at.invariant.2 i h in (
      length-set at.offsets at.t v ∙ at.invariant.0,
      local-next at.t c.next-l.ensures at.invariant.1,
      below_more _ at.t others here,
      λ i h k. get_or-set_other at.offsets at.t i v 0 (λ e. omega arith) ∙ at.invariant.3 i (omega arith) k,
    )

-- Before the factor i the product is (i − 1)!×D^(i − 1).
use mathlib.Core.Path.{◌∙◌, ◌≡◌, ap, refl, sym}
use Prim.Native.Nat.{◌*◌, ◌+◌, ◌-◌, ◌≤◌, ℕ}
use native.Mathlib.Nat.{mul-le-mul}
use native.Mathlib.Omega.{arith}
use Rattle.divisor_checks.proofs.Scale.{scale-le, scale-next, scale-zero}
use Rattle.divisor_checks.specs.Divisor.{limit, scale}
use Rattle.point.proofs.bernstein.denominator.Goals as goal
use Rattle.point.proofs.bernstein.denominator.Goals.{After-divisor-d}

-- the factor i
step : {p : ℕ} (D i : ℕ) → 1 ≤ i → p ≡ scale (i - 1) D → p * (i * D) ≡ scale i D
step D i h e =
    let k : i - 1 + 1 ≡ i = omega arith in
    let n = scale-next (i - 1) D in
    rw (e, rw k at n) refl

-- D is known
module _ (c : After-divisor-d) where
  abbrev d : ℕ
  d = c.divisor-d.result

  few : d ≤ 17179869184
  few = let f = c.ranges in rw c.divisor-d.ensures (omega arith)

  within : (i : ℕ) → i ≤ c.args.m → scale i d ≤ limit
  within i h =
      let p = c.requires in
      rw c.divisor-d.ensures
      (let g = scale-le i c.args.m _ p.some h in omega (arith, p.scaled))

pub loop-i-init : goal.loop-i-init
loop-i-init c = (omega arith, sym (scale-zero _))

pub overflow_mul-product : goal.overflow_mul-product
overflow_mul-product c =
    let i : c.loop-i.i ≤ 9 = omega (arith, c.requires.degree) in
    omega (arith, mul-le-mul i (few (goal.at.overflow_mul-product c).After-divisor-d))

pub overflow_mul-product-in-loop-i : goal.overflow_mul-product-in-loop-i
overflow_mul-product-in-loop-i c =
    let at = c.loop-i in
    let known = (goal.at.overflow_mul-product-in-loop-i c).After-divisor-d in
    omega (arith, step (d known) at.i (omega arith) at.invariant.1, within known at.i (omega arith))

pub loop-i-preserved : goal.loop-i-preserved
loop-i-preserved c =
    let at = c.loop-i in
    let known = (goal.at.loop-i-preserved c).After-divisor-d in
    let k : at.i + 1 - 1 ≡ at.i = omega arith in
    (omega arith, rw k (step (d known) at.i (omega arith) at.invariant.1))

pub returns-2 : goal.returns-2
returns-2 c =
    let at = c.loop-i in
    let known = (goal.at.returns-2 c).After-divisor-d in
    let e : at.i ≡ c.args.m = omega arith in
    step (d known) at.i (omega arith) at.invariant.1
    ∙ ap (λ (n : ℕ). scale n (d known)) e
    ∙ ap (scale c.args.m) c.divisor-d.ensures

-- Before the factor i the product is that of the factors below it, and not too large.
use mathlib.Core.Path.{◌≡◌, sym}
use Prim.Native.Nat.{◌*◌, ◌+◌, ◌-◌, ◌≤◌, ℕ}
use native.Mathlib.Nat.{mul-le-mul_left}
use native.Mathlib.Omega.{arith}
use borrow.Author.Tests.{le-leb, lt-leb}
use Rattle.divisor_checks.proofs.Scale.{scale-le, scale-next, scale-zero}
use Rattle.divisor_checks.specs.Divisor.{scale}
use Rattle.divisor_checks.proofs.scale_allowed.Goals as goal

-- the factor i
step : {s : ℕ} (D i : ℕ) → 1 ≤ i → s ≡ scale (i - 1) D → s * i * D ≡ scale i D
step {s} D i h e =
    let k : i - 1 + 1 ≡ i = omega arith in
    let n = scale-next (i - 1) D in
    rw (e, rw k at n) (omega arith)

-- the first of its two halves makes it no larger than both
half : (s D i : ℕ) → 1 ≤ D → s * i ≤ s * i * D
half s D i h = let g = mul-le-mul_left (s * i) h in omega arith

pub loop-i-init : goal.loop-i-init
loop-i-init c = record {
  within = omega arith;
  product = sym (scale-zero c.args.divisor);
  small = omega arith;
}

pub returns-then-most-part : goal.returns-then-most-part
returns-then-most-part c =
    let at = c.loop-i in
    let e = step c.args.divisor at.i (omega arith) at.invariant.product in
    let f = half at.product c.args.divisor at.i (omega arith) in
    let l = scale-le at.i c.args.m c.args.divisor (omega arith) (omega arith) in
    sym (lt-leb (scale c.args.m c.args.divisor) c.args.most (omega arith))

pub returns-then-most-product : goal.returns-then-most-product
returns-then-most-product c =
    let at = c.loop-i in
    let e = step c.args.divisor at.i (omega arith) at.invariant.product in
    let l = scale-le at.i c.args.m c.args.divisor (omega arith) (omega arith) in
    sym (lt-leb (scale c.args.m c.args.divisor) c.args.most (omega arith))

pub loop-i-preserved : goal.loop-i-preserved
loop-i-preserved c =
    let at = c.loop-i in
    let k : at.i + 1 - 1 ≡ at.i = omega arith in
    record {
      within = omega arith;
      product = rw k (step c.args.divisor at.i (omega arith) at.invariant.product);
      small = omega arith;
    }

pub returns : goal.returns
returns c =
    let at = c.loop-i in
    let e : at.i - 1 ≡ c.args.m = omega arith in
    let v : at.product ≡ scale c.args.m c.args.divisor = rw e at at.invariant.product in
    sym (le-leb (scale c.args.m c.args.divisor) c.args.most (omega arith))

pub returns-else-most-product : goal.returns-else-most-product
returns-else-most-product c =
    let at = c.loop-i in
    let e : at.i ≡ c.args.m = omega arith in
    let v = step c.args.divisor at.i (omega arith) at.invariant.product in
    let small : scale at.i c.args.divisor ≤ c.args.most = omega arith in
    sym (le-leb (scale c.args.m c.args.divisor) c.args.most (rw e at small))

-- Each factor and each product on the way is within the limit, and the last product is the weight.
use mathlib.Core.Path.{◌∙◌, ◌≡◌, ap}
use Prim.Native.Nat.{◌*◌, ◌-◌, ◌≤◌, ℕ}
use native.Mathlib.Omega.{arith}
use Rattle.sums.specs.Fill.{number_at}
use Rattle.divisor_checks.specs.Divisor.{limit}
use Rattle.parts.specs.Weights.{factor}
use Rattle.answers.specs.Bernstein.{term_weight}
use Rattle.parts.proofs.Weights as weights
use Rattle.point.proofs.bernstein.Weights.weight.Goals as goal
use Rattle.point.proofs.bernstein.Weights.weight.Goals.{After-with_factor-w, After-with_factor-w-2}
use Rattle.point.proofs.bernstein.Weights.weight.Goals.{After-with_factor-w-3, Start}

module _ (s : Start) where
  abbrev f0 : ℕ
  f0 = let a = s.args in factor (number_at a.self.x0.now) a.self.m a.l.p

  abbrev f1 : ℕ
  f1 = let a = s.args in factor (number_at a.self.x1.now) a.l.p a.l.r

  abbrev f2 : ℕ
  f2 = let a = s.args in factor (number_at a.self.x2.now) a.l.r a.l.s

  abbrev last : ℕ
  last = number_at s.args.self.x3.now s.args.l.s

  factor0 : f0 ≤ limit
  factor0 = weights.factor0 s.args.self.scaled s.requires s.args.self.powers

  factor1 : f1 ≤ limit
  factor1 = weights.factor1 s.args.self.scaled s.requires s.args.self.powers

  factor2 : f2 ≤ limit
  factor2 = weights.factor2 s.args.self.scaled s.requires s.args.self.powers

  product0 : 1 * f0 ≤ limit
  product0 = weights.product0 s.args.self.scaled s.requires s.args.self.powers

  product1 : 1 * f0 * f1 ≤ limit
  product1 = weights.product1 s.args.self.scaled s.requires s.args.self.powers

  product2 : 1 * f0 * f1 * f2 ≤ limit
  product2 = weights.product2 s.args.self.scaled s.requires s.args.self.powers

  product3 : 1 * f0 * f1 * f2 * last ≤ limit
  product3 = weights.product3 s.args.self.scaled s.requires s.args.self.powers

  weight_is : (let a = s.args in
      1 * f0 * f1 * f2 * last
      ≡ term_weight a.self.m a.self.q (a.self.m - a.l.p) (a.l.p - a.l.r) (a.l.r - a.l.s) a.l.s)
  weight_is = weights.weight_is s.args.self.scaled s.requires s.args.self.powers

-- the products as the code makes them
first-is : (c : After-with_factor-w) → c.with_factor-w.result ≡ 1 * f0 c.before
first-is c = c.with_factor-w.ensures

second_is : (c : After-with_factor-w-2) → (let s = c.before.before in
    c.with_factor-w-2.result ≡ 1 * f0 s * f1 s)
second_is c =
    c.with_factor-w-2.ensures ∙ ap (λ (w : ℕ). w * f1 c.before.before) (first-is c.before)

third-is : (c : After-with_factor-w-3) → (let s = c.before.before.before in
    c.with_factor-w-3.result ≡ 1 * f0 s * f1 s * f2 s)
third-is c =
    c.with_factor-w-3.ensures ∙ ap (λ (w : ℕ). w * f2 c.before.before.before) (second_is c.before)

pub with_factor-w-requires : goal.with_factor-w-requires
with_factor-w-requires c =
    let s = (goal.at.with_factor-w-requires c).Start in
    (c.requires.first, c.args.self.scaled.degree, factor0 s, product0 s)

pub with_factor-w-requires-2 : goal.with_factor-w-requires-2
with_factor-w-requires-2 c =
    let o = c.requires in
    let at = goal.at.with_factor-w-requires-2 c in
    let n : c.args.l.p ≤ 9 = omega (arith, o.first, c.args.self.scaled.degree) in
    (o.second, n, factor1 at.Start, rw (first-is at.After-with_factor-w) (product1 at.Start))

pub with_factor-w-requires-3 : goal.with_factor-w-requires-3
with_factor-w-requires-3 c =
    let o = c.requires in
    let at = goal.at.with_factor-w-requires-3 c in
    let n : c.args.l.r ≤ 9 = omega (arith, o.second, o.first, c.args.self.scaled.degree) in
    (o.third, n, factor2 at.Start, rw (second_is at.After-with_factor-w-2) (product2 at.Start))

pub overflow_mul-result : goal.overflow_mul-result
overflow_mul-result c =
    let at = goal.at.overflow_mul-result c in
    rw (third-is at.After-with_factor-w-3) (omega (arith, product3 at.Start))

pub returns : goal.returns
returns c =
    let at = goal.at.returns c in
    rw (third-is at.After-with_factor-w-3) (weight_is at.Start, product3 at.Start)

-- Each factor and each product on the way is within 2^48, and the last product is the weight.
use mathlib.Core.Path.{◌∙◌, ◌≡◌, ap, refl}
use Prim.Native.Nat.{◌*◌, ◌-◌, ◌^◌, ◌≤◌, ℕ}
use native.Mathlib.Omega.{arith}
use lib.IntN.{pos}
use Rattle.sums.specs.Coefficient.{binomial}
use Rattle.divisor_checks.specs.Divisor.{limit}
use Rattle.axis_order.specs.Weights.{weight_sum}
use Rattle.parts.specs.Weights.{Tables}
use Rattle.answers.specs.Bernstein.{term_weight}
use Rattle.floats.proofs.Products.{float-product}
use Rattle.floats.specs.Floats.{float}
use Rattle.parts.proofs.Weights as weights
use Rattle.live.proofs.bernstein.Weights.weight.Goals as goal
use Rattle.live.proofs.bernstein.Weights.weight.Goals.{Start}

module _ (s : Start) where
  -- the powers as numbers
  tables : (let q = s.args.self.q in
      Tables s.args.self.m q (λ i. q.l0 ^ i) (λ i. q.l1 ^ i) (λ i. q.l2 ^ i) (λ i. q.l3 ^ i))
  tables = record { of0 = λ i h. refl; of1 = λ i h. refl; of2 = λ i h. refl; of3 = λ i h. refl }

  power : (l i : ℕ) → l ≤ weight_sum s.args.self.q → i ≤ s.args.self.m → l ^ i ≤ limit
  power l i hl hi = (weights.powers-within s.args.self.m s.args.self.q s.args.self.scaled l hl).1 i hi

  abbrev f0 : ℕ
  f0 = let a = s.args in binomial a.self.m a.l.p * a.self.q.l0 ^ (a.self.m - a.l.p)

  abbrev f1 : ℕ
  f1 = let a = s.args in binomial a.l.p a.l.r * a.self.q.l1 ^ (a.l.p - a.l.r)

  abbrev f2 : ℕ
  f2 = let a = s.args in binomial a.l.r a.l.s * a.self.q.l2 ^ (a.l.r - a.l.s)

  abbrev last : ℕ
  last = s.args.self.q.l3 ^ s.args.l.s

  -- the number that the floats multiply to is the weight
  weight_is : (let a = s.args in
      f0 * f1 * f2 * last
      ≡ term_weight a.self.m a.self.q (a.self.m - a.l.p) (a.l.p - a.l.r) (a.l.r - a.l.s) a.l.s)
  weight_is = omega (arith, weights.weight_is s.args.self.scaled s.requires tables)

pub factor-w0-requires : goal.factor-w0-requires
factor-w0-requires c = (c.requires.first, c.args.self.scaled.degree)

pub factor-w1-requires : goal.factor-w1-requires
factor-w1-requires c =
    let o = c.requires in
    (o.second, omega (arith, o.first, c.args.self.scaled.degree))

pub factor-w2-requires : goal.factor-w2-requires
factor-w2-requires c =
    let o = c.requires in
    (o.third, omega (arith, o.second, o.first, c.args.self.scaled.degree))

pub returns : goal.returns
returns c =
    let s = (goal.at.returns c).Start in
    let o = c.requires in
    let a = c.args in
    let x = c.args.self.powers in
    let k1 : a.l.p - a.l.r ≤ a.self.m = omega (arith, o.first) in
    let k2 : a.l.r - a.l.s ≤ a.self.m = omega (arith, o.second, o.first) in
    let k3 : a.l.s ≤ a.self.m = omega (arith, o.third, o.second, o.first) in
    let w0 = c.factor-w0.ensures _ (power s a.self.q.l0 _ (omega arith) (omega arith))
    (x.of0 (a.self.m - a.l.p) (omega arith)) in
    let w1 = c.factor-w1.ensures _ (power s a.self.q.l1 _ (omega arith) k1) (x.of1 _ k1) in
    let w2 = c.factor-w2.ensures _ (power s a.self.q.l2 _ (omega arith) k2) (x.of2 _ k2) in
    float-product (f0 s) (f1 s) (f2 s) (last s)
    (omega (arith, weights.factor0 c.args.self.scaled o (tables s)))
    (omega (arith, weights.factor1 c.args.self.scaled o (tables s)))
    (omega (arith, weights.factor2 c.args.self.scaled o (tables s)))
    (omega (arith, power s a.self.q.l3 a.l.s (omega arith) k3))
    (omega (arith, weights.product1 c.args.self.scaled o (tables s)))
    (omega (arith, weights.product2 c.args.self.scaled o (tables s)))
    w0 w1 w2 (x.of3 a.l.s k3)
    ∙ ap (λ (n : ℕ). float (pos n)) (weight_is s)

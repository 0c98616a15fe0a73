-- The factor and the product fit because the caller's bounds are on exactly these.
use mathlib.Core.List.{[]}
use mathlib.Core.Path.{◌≡◌, refl}
use native.Mathlib.Omega.{arith}
use lib.ListN.{get_or}
use Rattle.sums.specs.Coefficient.{binomial}
use Rattle.point.proofs.bernstein.Weights.with_factor.Goals as goal
use Rattle.point.proofs.bernstein.Weights.with_factor.Goals.{Start}

binomial-is : (s : Start) → (let a = s.args in
    get_or (get_or a.self.table.now a.n []) a.k 0 ≡ binomial a.n a.k)
binomial-is s = s.args.self.binomials.is s.args.n s.args.k s.requires.1 s.requires.0

pub overflow_cast-result : goal.overflow_cast-result
overflow_cast-result c =
    omega (arith, c.args.self.binomials.small c.args.n c.args.k c.requires.1 c.requires.0)

pub overflow_mul-result : goal.overflow_mul-result
overflow_mul-result c = rw (binomial-is (goal.at.overflow_mul-result c).Start) (omega (arith, c.requires.2))

pub overflow_mul-result-2 : goal.overflow_mul-result-2
overflow_mul-result-2 c =
    rw (binomial-is (goal.at.overflow_mul-result-2 c).Start) (omega (arith, c.requires.3))

pub returns : goal.returns
returns c = rw (binomial-is (goal.at.returns c).Start) refl

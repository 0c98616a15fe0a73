-- The table has the binomial, and the powers have the power.
use mathlib.Core.List.{List, []}
use mathlib.Core.Path.{◌∙◌, ◌≡◌, ap}
use Prim.Native.Nat.{◌≤◌, ℕ}
use native.Mathlib.Omega.{arith}
use lib.IntN.{pos}
use lib.ListN.{get_or}
use Rattle.sums.specs.Coefficient.{binomial}
use Rattle.floats.proofs.Products.{float_mul}
use Rattle.floats.specs.Floats.{exact, float}
use Rattle.binomials.proofs.Binomials.{table-held}
use Rattle.live.proofs.bernstein.Weights.factor.Goals as goal
use Rattle.live.proofs.bernstein.Weights.factor.Goals.{Start}

module _ (s : Start) where
  abbrev entry : ℕ
  entry = get_or (get_or s.args.self.table.now s.args.n []) s.args.k 0

  entry-is : entry ≡ binomial s.args.n s.args.k
  entry-is =
      ap (λ (b : List (List ℕ)). get_or (get_or b s.args.n []) s.args.k 0) s.args.self.binomials
      ∙ table-held.is s.args.n s.args.k s.requires.1 s.requires.0

  small : binomial s.args.n s.args.k ≤ exact
  small =
      let a = s.args in
      omega (
        arith,
        table-held.is a.n a.k s.requires.1 s.requires.0,
        table-held.small a.n a.k s.requires.1 s.requires.0,
      )

pub returns : goal.returns
returns c power h e =
    float_mul (binomial c.args.n c.args.k) power (small (goal.at.returns c).Start) (omega (arith, h))
    (ap (λ (e : ℕ). float (pos e)) (entry-is (goal.at.returns c).Start)) e

-- The table's rule is one computed test of its entries.
use mathlib.Core.Bool.{true}
use mathlib.Core.List.{List, [], ◌∷◌}
use mathlib.Core.Path.{◌∙◌, ◌≡◌, refl}
use Prim.Native.Nat.{◌≤◌, ℕ}
use native.Mathlib.Omega.{arith}
use borrow.Author.Tests.{eqb-true}
use lib.Dec.{eqb}
use lib.ListN.{get_or}
use Rattle.sums.proofs.Search.{all-at}
use Rattle.sums.specs.Coefficient.{factorial}
use Rattle.sums.specs.Search.{all_to}
use Rattle.tetrahedron.proofs.unity.factorial_of.Goals as goal

table : List ℕ
table = 1 ∷ 1 ∷ 2 ∷ 6 ∷ 24 ∷ 120 ∷ 720 ∷ 5040 ∷ 40320 ∷ 362880 ∷ []

tested : all_to 10 (λ n. eqb (get_or table n 0) (factorial n)) ≡ true
unfolding all_to factorial table
tested = refl

entry : (n : ℕ) → n ≤ 9 → get_or table n 0 ≡ factorial n
entry n h = eqb-true _ _ (all-at 10 _ tested n (omega arith))

pub returns : goal.returns
unfolding table
returns c = c.from.ensures ∙ entry c.args.n c.requires

-- The table's rule is one computed test of its entries.
use mathlib.Core.Bool.{true}
use mathlib.Core.List.{List, [], ◌∷◌}
use mathlib.Core.Path.{◌≡◌, refl}
use Prim.Native.Nat.{◌*◌, ◌+◌, ◌/◌, ◌≤◌, ℕ}
use native.Mathlib.Omega.{arith}
use borrow.Author.Tests.{eqb-true, le-ltb, lt-ltb}
use lib.Dec.{eqb}
use lib.ListN.{get_or}
use Rattle.sums.proofs.Search.{all-at}
use Rattle.sums.specs.Search.{all_to}
use Rattle.tetrahedron.specs.LocalPlaces.{local_places}
use Rattle.tetrahedron.proofs.local.local_places.Goals as goal

table : List ℕ
table = 1 ∷ 4 ∷ 10 ∷ 20 ∷ 35 ∷ 56 ∷ 84 ∷ 120 ∷ 165 ∷ 220 ∷ []

tested : all_to 10 (λ m. eqb (get_or table m 0) ((m + 1) * (m + 2) * (m + 3) / 6)) ≡ true
unfolding all_to table
tested = refl

entry : (m : ℕ) → m ≤ 9 → get_or table m 0 ≡ (m + 1) * (m + 2) * (m + 3) / 6
entry m h = eqb-true _ _ (all-at 10 _ tested m (omega arith))

pub returns-then-m-gt9 : goal.returns-then-m-gt9
unfolding local_places
returns-then-m-gt9 c = simp (lt-ltb _ _ c.if-m-gt9.true)

pub returns : goal.returns
unfolding local_places table
returns c =
    let e = le-ltb _ _ c.if-m-gt9.false in
    simp e (entry c.args.m (omega arith))

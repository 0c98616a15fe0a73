-- Shares that add up at every local place: Section 10.6.
use Rattle.std.specs.Prelude.{Bool, ℕ, eqb}
use Rattle.sums.specs.Coefficient.{factorial}
use Rattle.sums.specs.Search.{all_to}
use Rattle.tetrahedron.specs.LocalPlaces.{local_places}

-- Section 10.6: whether the sums of shares, by the number of the local place, are all m!
unfoldable pub whole_at : ℕ → (ℕ → ℕ) → Bool
whole_at m shares = all_to (local_places m) (λ t. eqb (shares t) (factorial m))

-- What a list of steps leaves, as of calls that are made one after the other.
use Rattle.std.specs.Prelude.{List, [], ◌∷◌}

-- the state after all steps, the first of the list taken first
unfoldable pub after : {A S : Type 0} → (A → S → S) → List A → S → S
after step [] s = s
after step (a ∷ rest) s = after step rest (step a s)

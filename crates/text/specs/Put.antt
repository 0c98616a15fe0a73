-- How text is put into a slice.
use Rattle.std.specs.Prelude.{List, ◌≡◌, ◌+◌, ◌-◌, min, ℕ, length}
use Rattle.std.proofs.lemmas.List.Edits.{sets}

-- a slice with these bytes from one place on, as many as there is room for; the text goes on after them
pub record Put (bytes before after : List ℕ) (at next : ℕ) : Type 0 where
  pub goes_on : next ≡ at + min (length bytes) (length before - at)
  pub holds : after ≡ sets before at bytes

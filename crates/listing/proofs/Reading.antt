-- Typed bytes that are read one by one: those that are held decide what is printed.
use mathlib.Core.Bool.{Bool, false, true}
use mathlib.Core.List.{List, [], ◌++◌, ◌∷◌, append-nil}
use mathlib.Core.Path.{◌∙◌, ◌≡◌, ap, refl, sym}
use Prim.Native.Nat.{ℕ}
use lib.Seq.{append_snoc}
use Rattle.input.proofs.Reading.{with-unwanted, with-wanted}
use Rattle.input.specs.Reading.{wants_more, with_byte}
use Rattle.listing.proofs.Printed.{ten-decide}
use Rattle.listing.specs.Print.{printed}

-- what is held once all bytes of an input have come, after those that are held
unfoldable pub read_on : List ℕ → List ℕ → List ℕ
read_on s [] = s
read_on s (b ∷ rest) = read_on (with_byte s b) rest

read-on : (s rest : List ℕ) → printed (read_on s rest) ≡ printed (s ++ rest)
unfolding read_on
read-on s [] = ap printed (sym (append-nil s))
read-on s (b ∷ rest) = go (wants_more s) refl (read-on (with_byte s b) rest)
  where
    go : (t : Bool) → wants_more s ≡ t → printed (read_on (with_byte s b) rest) ≡ printed (with_byte s b ++ rest)
        → printed (read_on (with_byte s b) rest) ≡ printed (s ++ b ∷ rest)
    go true e p =
        p
        ∙ ap (λ (l : List ℕ). printed (l ++ rest)) (with-wanted s b e)
        ∙ ap printed (append_snoc s b rest)
    go false e p =
        p
        ∙ ap (λ (l : List ℕ). printed (l ++ rest)) (with-unwanted s b e)
        ∙ ten-decide s rest e
        ∙ sym (ten-decide s (b ∷ rest) e)

-- the print of the bytes that are held in the end is that of the whole input
pub reading-decides : (input : List ℕ) → printed (read_on [] input) ≡ printed input
reading-decides input = read-on [] input

-- Typed bytes as a program reads them, one by one, until no more can matter: Section 13.3.
use Rattle.std.specs.Prelude.{Bool, cond, List, [], ◌++◌, ◌∷◌, ℕ, ltb, length, take}
use Rattle.input.specs.declared.Typed.{Typed}

-- Section 13.3: the bytes that were read
abbrev pub held : Typed → List ℕ
held t = take t.count t.bytes

-- Section 13.3: whether a byte more could change what is printed; ten decide
unfoldable pub wants_more : List ℕ → Bool
wants_more s = ltb (length s) 10

-- Section 13.3: the bytes read, with one more if it is wanted
unfoldable pub with_byte : List ℕ → ℕ → List ℕ
with_byte s b = cond (wants_more s) (s ++ (b ∷ [])) s

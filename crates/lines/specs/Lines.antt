-- The lines that program `shares` prints: Section 13.2.
use Rattle.std.specs.Prelude.{cond, List, [], ◌++◌, ◌∷◌, ℕ, eqb}
use Rattle.text.specs.Text.{blank, item, newline, triple}

-- the bytes of `box` and `degree`, with the blank after each
abbrev pub box_word : List ℕ
box_word = 98 ∷ 111 ∷ 120 ∷ 32 ∷ []

abbrev pub degree_word : List ℕ
degree_word = 100 ∷ 101 ∷ 103 ∷ 114 ∷ 101 ∷ 101 ∷ 32 ∷ []

-- Section 13.2: the first line
unfoldable pub header_text : ℕ → ℕ → ℕ → ℕ → List ℕ
header_text w1 w2 w3 m = box_word ++ triple w1 w2 w3 blank ++ degree_word ++ item m newline

-- Section 13.2: the line of a place, none where its number is 0
unfoldable pub place_text : ℕ → ℕ → ℕ → ℕ → List ℕ
place_text x y z n = cond (eqb n 0) [] (triple x y z blank ++ item n newline)

-- the bytes of `refused`, with the blank after it
abbrev pub refused_word : List ℕ
refused_word = 114 ∷ 101 ∷ 102 ∷ 117 ∷ 115 ∷ 101 ∷ 100 ∷ 32 ∷ []

-- Section 13.2: the line of a refusal, by its number
unfoldable pub refused_text : ℕ → List ℕ
refused_text number = refused_word ++ item number newline

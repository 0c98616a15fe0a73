-- `put_places` meets its contract: before turn i the lines of i places are put.
use mathlib.Core.List.{List}
use Prim.Native.Nat.{◌%◌, ◌/◌, ℕ}
use lib.ListN.{get_or}
use Rattle.text.specs.Put.{Put}
use Rattle.text.specs.Text.{joined}
use Rattle.lines.specs.Lines.{place_text}
use Rattle.listing.proofs.put_places.Given as goal

-- the line of an index
abbrev pub line : List ℕ → ℕ → ℕ → ℕ → List ℕ
line net w1 w2 i = place_text (i % w1) (i / w1 % w2) (i / w1 / w2) (get_or net i 0)

abbrev pub invariant-loop-i : goal.invariant-loop-i
invariant-loop-i l = Put (joined (line l.net l.w1 l.w2) l.i) l.initial.out l.out l.start l.at

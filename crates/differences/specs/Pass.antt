-- The first half of a repeat, the differences at every place of the new box: Section 6.3.
use Rattle.std.specs.Prelude.{cond, List, ℕ, ℤ, length}
use Rattle.sums.specs.Fill.{filled}
use Rattle.sums.specs.Word.{signed_word, word}
use Rattle.spline.specs.Box.{place_of, places, spread}
use Rattle.spline.specs.Place.{Axis, Direction, Net, Place, ◌⊖◌}
use Rattle.spline.specs.Rule.{rule_right}
use Rattle.shape.specs.Shape.{widths}
use Rattle.shape.specs.declared.Shape.{Shape}
use Rattle.fitting.specs.Fitting.{differences_fit}

-- Section 6.3: the right side of the rule at q − d, for G of degree g
abbrev pub difference : Direction → ℕ → Net → Place → ℤ
difference d g G q = rule_right d g G (q ⊖ d)

-- what a signed number of 32 bits holds of it
abbrev pub wrapped : ℤ → ℤ
wrapped z = signed_word (word z)

-- what the pass writes at an index: the list s is a net of degree g over the box W, and W' is the box of the
-- net with one repeat of d more
abbrev pub index_difference : Direction → ℕ → (Axis → ℕ) → List ℕ → (Axis → ℕ) → ℕ → ℤ
index_difference d g W s W' i = wrapped (difference d g (spread W s) (place_of W' i))

-- the work slice after the pass, which writes nothing where its parts do not fit
unfoldable pub differences_of : Direction → Shape → Shape → List ℕ → List ℤ → List ℤ
differences_of d old new net work =
    cond (differences_fit old new (length net) (length work))
    (filled (index_difference d old.m (widths old) net (widths new)) (places (widths new)) work)
    work

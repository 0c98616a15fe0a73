-- The first half row by row, as the code takes it.
use Rattle.std.specs.Prelude.{List, ◌≡◌, ◌%◌, ◌*◌, ◌+◌, ◌<◌, ◌≤◌, suc, ℕ, ◌-ℤ◌, pos, ℤ, get_or}
use Rattle.std.proofs.Math.IntN.{sub_ℕ}
use Rattle.sums.specs.Fill.{filled}
use Rattle.spline.specs.Box.{in_box, places, spread}
use Rattle.spline.specs.Place.{Axis, Place, a1, a2, a3, place}
use Rattle.spline.specs.Rule.{lower_above}
use Rattle.shape.specs.Inner.Boxes.{Boxed}
use Rattle.shape.specs.Shape.{widths}
use Rattle.shape.specs.declared.Shape.{Shape}
use Rattle.shape.specs.declared.Vector.{Vector}
use Rattle.cells.specs.Coordinates.{near_coordinate}
use Rattle.differences.specs.Pass.{wrapped}
use Rattle.cells.specs.declared.Cell.{Cell}

-- where the row (y, z) of a box ends in its list; 0 for a row outside the box
unfoldable pub row_end : (Axis → ℕ) → ℤ → ℤ → ℕ
row_end W y z = in_box (W a2) y (λ y. in_box (W a3) z (λ z. W a1 * (y + W a2 * z) + W a1))

-- the end of some row
pub record IsRowEnd (W : Axis → ℕ) (e : ℕ) : Type 0 where
  pub y : ℤ
  pub z : ℤ
  pub is : e ≡ row_end W y z

-- the number of a list over a box at one place, less the one at another
abbrev pub between : (Axis → ℕ) → List ℕ → Place → Place → ℤ
between W s q p = wrapped (pos (spread W s q) -ℤ pos (spread W s p))

-- the number at (a, b, c), less the one t before it
abbrev pub step_difference : (Axis → ℕ) → List ℕ → Vector → ℕ → ℕ → ℕ → ℤ
step_difference W s t a b c =
    between W s (place (pos a) (pos b) (pos c)) (place (sub_ℕ a t.x) (sub_ℕ b t.y) (sub_ℕ c t.z))

-- the lowered coordinate of a cell, for the pivot p
abbrev pub low_in : ℕ → Cell → ℤ
low_in p c = pos (c.base + lower_above p c.u)

-- the number at a of the row (y, z), less the one g before it
abbrev pub row_difference : ℕ → (Axis → ℕ) → List ℕ → ℤ → ℤ → ℕ → ℤ
row_difference g W s y z a = between W s (place (pos a) y z) (place (sub_ℕ a g) y z)

-- that of the lowered row of y and z, for the pivot u
abbrev pub line_difference : ℕ → (Axis → ℕ) → List ℕ → Cell → Cell → ℕ → ℕ → ℤ
line_difference g W s y z u a = row_difference g W s (low_in u y) (low_in u z) a

-- that at the place x of a row of direction 1, where the pivot is the remainder of x − 1
abbrev pub along_difference : ℕ → (Axis → ℕ) → List ℕ → Cell → Cell → ℕ → ℤ
along_difference g W s y z x =
    line_difference g W s y z ((x + g) % suc g) (near_coordinate g ((x + g) % suc g) g x)

-- Of the indices b, b + (g + 1), b + 2 (g + 1), .. those below t hold the numbers of f now; all indices but
-- those of them below e are untouched.
pub record Column (g : ℕ) (f : ℕ → ℤ) (b t e : ℕ) (before after : List ℤ) : Type 0 where
  pub numbers : (k : ℕ) → b + suc g * k < t → get_or after (b + suc g * k) (pos 0) ≡ f k
  pub others : (j : ℕ) → ((k : ℕ) → b + suc g * k < e → j ≡ b + suc g * k → ⊥)
      → get_or after j (pos 0) ≡ get_or before j (pos 0)

-- where the first a places of a list held the numbers of f, the first e places hold them now, and the rest is
-- untouched
abbrev pub FillsOn : (ℕ → ℤ) → ℕ → ℕ → List ℤ → List ℤ → Type 0
FillsOn f a e before after = before ≡ filled f a before → after ≡ filled f e before

-- an older box that a repeat can still enlarge, and that a slice holds
pub record Growing (old : Shape) (net_length : ℕ) : Type 0 where
  pub boxed : Boxed old
  pub degree : old.m ≤ 8
  pub held : places (widths old) ≤ net_length

-- a cell whose numbers are small
pub record SmallCell (c : Cell) : Type 0 where
  pub base : c.base ≤ 800
  pub remainder : c.u ≤ 8

-- Each turn writes the difference at the lowered coordinate x; the number that it reads there is the far one
-- of the next turn.
use mathlib.Core.Path.{◌≡◌}
use Prim.Native.Nat.{◌*◌, ◌+◌, ◌-◌, suc, ℕ}
use lib.IntN.{sub_ℕ, ℤ}
use lib.ListN.{length}
use Rattle.spline.specs.Box.{spread}
use Rattle.spline.specs.Place.{place}
use Rattle.shape.specs.Shape.{widths}
use Rattle.differences.specs.Inner.Rows.{Column, row_difference, row_end}
use Rattle.differences.proofs.row.difference_column.Given as goal

-- the turn of which x and i are
pub record Turn (g a b x i : ℕ) : Type 0 where
  pub k : ℕ
  pub x-is : x ≡ a + g * k
  pub i-is : i ≡ b + suc g * k

abbrev pub invariant-loop-i : goal.invariant-loop-i
invariant-loop-i l =
    Turn l.g l.a l.b l.x l.i × (length l.work ≡ length l.initial.work)
    × ((y z : ℤ) → l.r ≡ row_end (widths l.old) y z
    → l.far ≡ spread (widths l.old) l.net (place (sub_ℕ l.x l.g) y z))
    × ((y z : ℤ) → l.r ≡ row_end (widths l.old) y z
    → Column l.g (λ k. row_difference l.g (widths l.old) l.net y z (l.a + l.g * k)) l.b l.i l.e
    l.initial.work l.work)

abbrev pub decreases-loop-i : goal.decreases-loop-i
decreases-loop-i l = l.e - l.i

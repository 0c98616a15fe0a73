-- A coordinate on an axis: its distance from the origin, its sign, its cell and remainder. Section 9.1.
use Rattle.std.specs.Prelude.{◌&&◌, cond, not, ◌%◌, ◌*◌, ◌+◌, ◌-◌, ◌/◌, ℕ, eqb, ◌*ℤ◌, ◌-ℤ◌, nat_abs, pos, ℤ}
use Rattle.std.specs.Int.Signed.{non_neg}
use Rattle.coordinates.specs.declared.Located.{Located}
use Rattle.checks.specs.Checks.{Checked, no_refusal, refuse_if}
use Rattle.checks.specs.declared.Refusal.TheVariants.{Outside}

-- Section 9.1: a coordinate X, read from the origin o of its axis
unfoldable pub from_origin : ℤ → ℤ → ℕ → ℤ
from_origin x o D = x -ℤ o *ℤ pos D

-- Section 9.1: its distance from there; of a coordinate before the origin this counts for nothing, since 12
-- refuses the point
abbrev pub distance : ℤ → ℤ → ℕ → ℕ
distance x o D = nat_abs (from_origin x o D)

-- how far it may be read to lie over D: a coordinate has 32 bits, an origin 16
abbrev pub farthest_over : ℕ → ℕ
farthest_over D = 2147483648 + 32768 * D

-- Section 5.3: 12 for a coordinate that is negative when it is read from the origin
unfoldable pub sign_check : ℤ → ℤ → ℤ → Checked
sign_check x y z = refuse_if Outside (not (non_neg x && non_neg y && non_neg z)) no_refusal

-- Section 9.1: cell and remainder of a distance over D, on an axis with n entries; the far face, at n×D,
-- belongs to the last cell
unfoldable pub located : ℕ → ℕ → ℕ → Located
located x D n =
    cond (eqb x (n * D)) (record { cell = n - 1; remainder = D })
    (record { cell = x / D; remainder = x % D })

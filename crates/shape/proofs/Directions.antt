-- Directions of bytes, and components of their vectors.
use mathlib.Core.Bool.{Bool, cond, false, true}
use mathlib.Core.Path.{◌≡◌, refl}
use Prim.Native.Nat.{◌+◌, ◌≤◌, suc, zero, ℕ}
use native.Mathlib.Omega.{arith}
use Rattle.spline.specs.Build.{direction}
use Rattle.spline.specs.Place.{Axis, Direction, a1, a2, a3, along, diagonal, moves}
use Rattle.shape.specs.Direction.{component}

-- each is 0 or 1
pub component-le : (d : Direction) (b : Axis) → component d b ≤ 1
component-le d b = go (moves d b)
  where
    go : (h : Bool) → cond h 1 0 ≤ 1
    go true = omega arith
    go false = omega arith

-- one at least is 1
pub component-some : (d : Direction) → 1 ≤ component d a1 + component d a2 + component d a3
component-some (along a1) = omega arith
component-some (along a2) = omega arith
component-some (along a3) = omega arith
component-some diagonal = omega arith

-- a byte that is none of 1, 2 and 3 stands for direction 4
pub direction-rest : (k : ℕ) → (k ≡ 1 → ⊥) → (k ≡ 2 → ⊥) → (k ≡ 3 → ⊥) → direction k ≡ diagonal
direction-rest zero h1 h2 h3 = refl
direction-rest (suc zero) h1 h2 h3 = absurd (h1 refl)
direction-rest (suc (suc zero)) h1 h2 h3 = absurd (h2 refl)
direction-rest (suc (suc (suc zero))) h1 h2 h3 = absurd (h3 refl)
direction-rest (suc (suc (suc (suc k)))) h1 h2 h3 = refl

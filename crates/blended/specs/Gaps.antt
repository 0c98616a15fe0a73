-- The lowest gap of a window: Section 10.5.
use Rattle.std.specs.Prelude.{Bool, ◌&&◌, ◌%◌, ◌/◌, ℕ, ℤ}
use Rattle.sums.specs.Search.{Found, first}
use Rattle.spline.specs.Box.{places}
use Rattle.spline.specs.Multiplicities.{Multiplicities, extent}
use Rattle.spline.specs.Place.{Axis, a1, a2, a3}
use Rattle.unit.specs.Gaps.{is_gap}
use Rattle.window.specs.Window.{in_window_on}

-- Section 10.5: whether entry (j1, j2, j3) is in the window and a gap
unfoldable pub window_gap : Multiplicities → (ℕ → ℕ → ℕ → ℤ) → (Axis → ℕ) → ℕ → ℕ → ℕ → Bool
window_gap v entry k j1 j2 j3 =
    in_window_on (extent v a1) (k a1) j1
    && in_window_on (extent v a2) (k a2) j2
    && in_window_on (extent v a3) (k a3) j3
    && is_gap (entry j1 j2 j3)

-- Section 10.5: the lowest index of such an entry in a block of sizes n
unfoldable pub first_gap : Multiplicities → (Axis → ℕ) → (ℕ → ℕ → ℕ → ℤ) → (Axis → ℕ) → Found
first_gap v n entry k =
    first (places n) (λ i. window_gap v entry k (i % n a1) (i / n a1 % n a2) (i / n a1 / n a2))

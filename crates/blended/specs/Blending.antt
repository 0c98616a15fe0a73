-- Shares and blended numbers: Section 10. The net is the number at an index, the block the entry at
-- (j1, j2, j3). Sums over the window go through j = k − i, with i below the extent on every axis.
use Rattle.std.specs.Prelude.{Bool, cond, ◌*◌, ◌+◌, ◌-◌, suc, ℕ, eqb, ◌*ℤ◌, pos, ℤ}
use Rattle.sums.specs.Coefficient.{factorial}
use Rattle.sums.specs.Search.{all_to}
use Rattle.sums.specs.Sum.{sum_box, sum_box_z}
use Rattle.spline.specs.Box.{index, width}
use Rattle.spline.specs.Multiplicities.{Multiplicities, degree, extent}
use Rattle.spline.specs.Place.{Axis, a1, a2, a3}
use Rattle.axis_order.specs.AxisOrder.{axis_number}
use Rattle.axis_order.specs.declared.Placing.{Placing}

-- Section 10.1: the local place of (b0..b3)
unfoldable pub local_place : Placing → ℕ → ℕ → ℕ → Axis → ℕ
local_place q b1 b2 b3 b =
    cond (eqb (axis_number b) q.p) (b1 + b2 + b3)
    (cond (eqb (axis_number b) q.r) (b2 + b3) b3)

-- Section 10.3: the share of the entry k − i at the local place u
unfoldable pub share : Multiplicities → (ℕ → ℕ) → (Axis → ℕ) → ℕ → ℕ → ℕ → ℕ
share v net u i1 i2 i3 =
    net (index (width v) (degree v * i1 + u a1) (degree v * i2 + u a2) (degree v * i3 + u a3))

-- Section 10.6: the shares of the window, added up
unfoldable pub share_sum : Multiplicities → (ℕ → ℕ) → (Axis → ℕ) → ℕ
share_sum v net u = sum_box (extent v a1) (extent v a2) (extent v a3) (share v net u)

-- Section 10.4: the blended correction at the local place u
unfoldable pub blended_correction : Multiplicities → (ℕ → ℕ) → (ℕ → ℕ → ℕ → ℤ) → (Axis → ℕ) → (Axis → ℕ) → ℤ
blended_correction v net entry k u =
    sum_box_z (extent v a1) (extent v a2) (extent v a3)
    (λ i1 i2 i3. pos (share v net u i1 i2 i3) *ℤ entry (k a1 - i1) (k a2 - i2) (k a3 - i3))

-- Section 10.4: the blended uncertainty
unfoldable pub blended_uncertainty : Multiplicities → (ℕ → ℕ) → (ℕ → ℕ → ℕ → ℕ) → (Axis → ℕ) → (Axis → ℕ) → ℕ
blended_uncertainty v net entry k u =
    sum_box (extent v a1) (extent v a2) (extent v a3)
    (λ i1 i2 i3. share v net u i1 i2 i3 * entry (k a1 - i1) (k a2 - i2) (k a3 - i3))

-- a test that holds of all (b0..b3) with sum m, gone through as sums over them are
unfoldable pub all_simplex : ℕ → (ℕ → ℕ → ℕ → ℕ → Bool) → Bool
all_simplex m t =
    all_to (suc m) (λ a1. all_to (suc a1) (λ a2. all_to (suc a2) (λ a3. t (m - a1) (a1 - a2) (a2 - a3) a3)))

-- Section 10.6: whether the shares add up to m! at every local place, those of weight 0 included
unfoldable pub adds_up : Multiplicities → (ℕ → ℕ) → Placing → Bool
adds_up v net q =
    all_simplex (degree v)
    (λ b0 b1 b2 b3. eqb (share_sum v net (local_place q b1 b2 b3)) (factorial (degree v)))

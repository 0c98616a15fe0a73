-- Which cells are inside, and the check of a cell. Section 9.2.
use Rattle.std.specs.Prelude.{Bool, ◌&&◌, not, ◌-◌, ℕ, leb}
use Rattle.spline.specs.Multiplicities.{Multiplicities, extent}
use Rattle.spline.specs.Place.{Axis, a1, a2, a3}
use Rattle.checks.specs.Checks.{Checked, no_refusal, refuse_if}
use Rattle.checks.specs.declared.Refusal.TheVariants.{Outside}

-- Section 9.2: inside on an axis
abbrev pub inside_on : ℕ → ℕ → ℕ → Bool
inside_on E n k = leb (E - 1) k && leb k (n - 1)

-- Section 9.2: inside on all three
unfoldable pub inside : Multiplicities → (Axis → ℕ) → (Axis → ℕ) → Bool
inside v n k =
    inside_on (extent v a1) (n a1) (k a1)
    && inside_on (extent v a2) (n a2) (k a2)
    && inside_on (extent v a3) (n a3) (k a3)

-- Section 5.3: 12 for a cell that is not inside
unfoldable pub cell_check : Multiplicities → (Axis → ℕ) → (Axis → ℕ) → Checked
cell_check v n k = refuse_if Outside (not (inside v n k)) no_refusal

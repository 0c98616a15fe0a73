-- The largest divisor of a degree, as the code asks for it.
use Rattle.std.specs.Prelude.{◌≡◌, ◌≤◌, ℕ, leb}
use Rattle.divisor_checks.specs.Divisor.{scale}

-- for a degree up to 9, a divisor's m!×D^m is at most so large exactly up to L
pub record Largest (most m L : ℕ) : Type 0 where
  pub up_to : m ≤ 9 → (D : ℕ) → D ≤ 4096 → leb (scale m D) most ≡ leb D L

-- Powers as floats make them, each from the one before: Section 11.7.
use Rattle.std.specs.Prelude.{cond, List, ◌+◌, suc, zero, ℕ, leb, Float, pos}
use Rattle.std.specs.Float.{binary64}
use Rattle.std.specs.Float.Ieee.{mul}
use Rattle.sums.specs.Fill.{filled, tabulate}
use Rattle.floats.specs.Floats.{float}

-- the i-th power of a number
unfoldable pub float_power : ℕ → ℕ → Float
float_power l zero = float (pos 1)
float_power l (suc i) = mul binary64 (float_power l i) (float (pos l))

-- ten ones
unfoldable pub ones : List Float
ones = tabulate (λ i. float (pos 1)) 10

-- the powers 0 to m of a number, for m up to 9, and ones behind
unfoldable pub float_powers : ℕ → ℕ → List Float
float_powers l m = cond (leb m 9) (filled (float_power l) (m + 1) ones) ones

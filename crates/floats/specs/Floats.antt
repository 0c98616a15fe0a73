-- Whole numbers as 64-bit floats: Section 11.7.
use Rattle.std.specs.Prelude.{List, ℕ, Float, ℤ, get_or}
use Rattle.std.specs.Float.{binary64, nan}
use Rattle.std.specs.Float.Ieee.{of_int}

-- Section 11.7: a whole number as a 64-bit float
abbrev pub float : ℤ → Float
float z = of_int binary64 z

-- up to here a float counts whole numbers without a gap: 2^53
abbrev pub exact : ℕ
exact = 9007199254740992

-- a list's float at an index
abbrev pub float_at : List Float → ℕ → Float
float_at l i = get_or l i nan

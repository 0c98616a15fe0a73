-- How far a coordinate that was read from an origin may lie, as the code asks for it.
use Rattle.std.specs.Prelude.{ℕ}

-- 2^31 + 2^27: a coordinate has 32 bits, an origin 16, and a divisor is at most 4096
abbrev pub farthest : ℕ
farthest = 2281701376

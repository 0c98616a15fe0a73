-- Gaps among the entries of a block: Sections 8.1, 8.3.
use Rattle.std.specs.Prelude.{Bool, ◌&&◌, false, not, ℕ, eqb, negsuc, pos, ℤ}

-- Section 8.1: a gap is a correction of −32768
abbrev pub is_gap : ℤ → Bool
is_gap (pos n) = false
is_gap (negsuc n) = eqb n 32767

-- Section 8.3: a gap with an uncertainty other than 0, which no file may have
abbrev pub uncertain_gap : ℤ → ℕ → Bool
uncertain_gap correction uncertainty = is_gap correction && not (eqb uncertainty 0)

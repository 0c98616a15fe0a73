-- What an inspection asks of its slices: Section 7.1.
use Rattle.std.specs.Prelude.{Bool, ◌||◌, ℕ, ltb}

-- Section 7.1: the condition of 4, one of three slices has less than n elements
abbrev pub shorter : ℕ → ℕ → ℕ → ℕ → Bool
shorter net_length defined_length work_length n =
    ltb net_length n || ltb defined_length n || ltb work_length n

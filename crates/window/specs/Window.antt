-- Which entries a window has, and what a search for its gaps has found: Sections 10.2 and 10.5.
use Rattle.std.specs.Prelude.{Bool, None, Option, Some, ◌&&◌, ◌+◌, ◌-◌, ℕ, leb}
use Rattle.sums.specs.Search.{Found, at, nowhere}

-- Section 10.2: in the window on an axis
abbrev pub in_window_on : ℕ → ℕ → ℕ → Bool
in_window_on E k j = leb (k + 1 - E) j && leb j k

-- Section 10.5: the index of the gap that was found
abbrev pub found_of : Option ℕ → Found
found_of None = nowhere
found_of (Some i) = at i

-- and the other way round
abbrev pub gap_of : Found → Option ℕ
gap_of nowhere = None
gap_of (at i) = Some i

-- The local places of a tetrahedron by number: Section 10.1. A local place is how far it lies along the axes
-- p, r and s; those of degree m have 0 ≤ s ≤ r ≤ p ≤ m.
use Rattle.std.specs.Prelude.{cond, ◌*◌, ◌+◌, ◌/◌, suc, zero, ℕ, ltb}
use Rattle.tetrahedron.specs.declared.local.LocalPlace.{LocalPlace}

abbrev pub local : ℕ → ℕ → ℕ → LocalPlace
local p r s = record { p = p; r = r; s = s }

-- Section 10.1: the one after another; after the last of degree 9 the first
unfoldable pub local_after : LocalPlace → LocalPlace
local_after l =
    cond (ltb l.s l.r) (local l.p l.r (l.s + 1))
    (cond (ltb l.r l.p) (local l.p (l.r + 1) 0)
    (cond (ltb l.p 9) (local (l.p + 1) 0 0) (local 0 0 0)))

-- Section 10.1: the one with number t
unfoldable pub local_at : ℕ → LocalPlace
local_at zero = local 0 0 0
local_at (suc t) = local_after (local_at t)

-- Section 10.1: how many degree m has; past degree 9 none
unfoldable pub local_places : ℕ → ℕ
local_places m = cond (ltb 9 m) 0 ((m + 1) * (m + 2) * (m + 3) / 6)

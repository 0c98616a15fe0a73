-- Three numbers that are the three axes in some order. Section 9.7.
use Rattle.std.specs.Prelude.{Bool, ◌&&◌, not, ℕ, eqb, leb}

abbrev pub is_axis : ℕ → Bool
is_axis a = leb 1 a && leb a 3

-- Section 9.7: p, r, s are the three axes in some order
unfoldable pub are_axes : ℕ → ℕ → ℕ → Bool
are_axes p r s = is_axis p && is_axis r && is_axis s && not (eqb p r) && not (eqb p s) && not (eqb r s)

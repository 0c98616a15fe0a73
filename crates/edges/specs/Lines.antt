-- Lines of a direction in a box, and sums of a list's entries along them from the box's edge: Section 6.3.
use Rattle.std.specs.Prelude.{List, min, suc, zero, ℕ, ◌+ℤ◌, nat_abs, pos, ℤ, get_or}
use Rattle.spline.specs.Box.{index}
use Rattle.spline.specs.Place.{Axis, Direction, Place, ◌⊖◌, a1, a2, a3, along, diagonal}

-- Section 6.3: how many steps of d lead from a place of the box to its edge, which for direction 4 is the
-- nearest of three faces
abbrev pub steps_to_edge : Direction → Place → ℕ
steps_to_edge (along b) q = nat_abs (q b)
steps_to_edge diagonal q = min (nat_abs (q a1)) (min (nat_abs (q a2)) (nat_abs (q a3)))

-- F(q − nd) + .. + F(q − d) + F(q)
unfoldable pub line_sum : Direction → (Place → ℤ) → ℕ → Place → ℤ
line_sum d F zero q = F q
line_sum d F (suc n) q = line_sum d F n (q ⊖ d) +ℤ F q

-- the entry of a list over a box at a place of the box
abbrev pub entry_at : (Axis → ℕ) → List ℤ → Place → ℤ
entry_at W s q = get_or s (index W (nat_abs (q a1)) (nat_abs (q a2)) (nat_abs (q a3))) (pos 0)

-- Section 6.3: the sum of a list's entries on the line of direction d, from the box's edge up to q
unfoldable pub edge_sum : Direction → (Axis → ℕ) → List ℤ → Place → ℤ
edge_sum d W s q = line_sum d (entry_at W s) (steps_to_edge d q) q

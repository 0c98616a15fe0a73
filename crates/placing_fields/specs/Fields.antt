-- Ties and far faces of a placing, by its fields. Section 9.7.
use Rattle.std.specs.Prelude.{Bool, ◌&&◌, ◌||◌, cond, not, ◌+◌, ◌-◌, ℕ, eqb, ltb}
use Rattle.unit.specs.declared.Unit.{Unit}
use Rattle.axis_order.specs.Weights.{weight_sum}
use Rattle.axis_order.specs.declared.Placing.{Placing}

-- Section 9.7: where the weight between axis a and the next one, b, is 0, a is the lower
abbrev pub tie_in_order : ℕ → ℕ → ℕ → Bool
tie_in_order weight a b = not (eqb weight 0) || ltb a b

unfoldable pub ties_in_order : Placing → Bool
ties_in_order q = tie_in_order q.l1 q.p q.r && tie_in_order q.l2 q.r q.s

-- Section 9.7: the remainder on the axis with the number a
unfoldable pub remainder_on : Placing → ℕ → ℕ
remainder_on q a = cond (eqb a q.p) (q.l1 + q.l2 + q.l3) (cond (eqb a q.r) (q.l2 + q.l3) q.l3)

-- Section 9.7: a remainder of D, that of a far face, stands only in the last of n cells
abbrev pub face_in_last : ℕ → ℕ → ℕ → ℕ → Bool
face_in_last remainder D n k = not (eqb remainder D) || eqb k (n - 1)

unfoldable pub faces_in_last : Unit → Placing → Bool
faces_in_last u q =
    face_in_last (remainder_on q 1) (weight_sum q) u.n1 q.k1
    && face_in_last (remainder_on q 2) (weight_sum q) u.n2 q.k2
    && face_in_last (remainder_on q 3) (weight_sum q) u.n3 q.k3

-- Axes, directions, places over ℤ, and their division by the degree: Sections 1.1, 2.1, 3.1.
use Rattle.std.specs.Prelude.{Bool, true, false, ℕ, suc, ◌-◌, ◌/◌, ◌%◌, ℤ, pos, negsuc, ◌+ℤ◌, ◌*ℤ◌}
use Rattle.std.proofs.Math.IntN.{suc_ℤ, pred_ℤ}

-- Section 2.1: the three axes
pub data Axis : Type 0 where
  a1 a2 a3 : Axis

-- Section 2.1: directions 1, 2, 3 go along one axis, direction 4 is the diagonal (1,1,1)
pub data Direction : Type 0 where
  along : Axis → Direction
  diagonal : Direction

abbrev pub same_axis : Axis → Axis → Bool
same_axis a1 a1 = true
same_axis a1 a2 = false
same_axis a1 a3 = false
same_axis a2 a1 = false
same_axis a2 a2 = true
same_axis a2 a3 = false
same_axis a3 a1 = false
same_axis a3 a2 = false
same_axis a3 a3 = true

-- Section 2.1: whether the direction's vector has a 1 on the axis (else it has a 0)
abbrev pub moves : Direction → Axis → Bool
moves (along a) b = same_axis a b
moves diagonal b = true

-- Section 3.1: a place, three whole numbers of any sign
abbrev pub Place : Type 0
Place = Axis → ℤ

abbrev pub place : ℤ → ℤ → ℤ → Place
place x y z a1 = x
place x y z a2 = y
place x y z a3 = z

-- a number for each axis
abbrev pub on_axes : ℕ → ℕ → ℕ → Axis → ℕ
on_axes x y z a1 = x
on_axes x y z a2 = y
on_axes x y z a3 = z

-- Section 3.1: a net, the number at every place
abbrev pub Net : Type 0
Net = Place → ℕ

abbrev pub up_if : Bool → ℤ → ℤ
up_if true z = suc_ℤ z
up_if false z = z

abbrev pub down_if : Bool → ℤ → ℤ
down_if true z = pred_ℤ z
down_if false z = z

-- Section 2.1: q + d, by the direction's vector
infixl 6 ◌⊕◌
abbrev pub ◌⊕◌ : Place → Direction → Place
q ⊕ d = λ b. up_if (moves d b) (q b)

-- Section 2.1: q − d
infixl 6 ◌⊖◌
abbrev pub ◌⊖◌ : Place → Direction → Place
q ⊖ d = λ b. down_if (moves d b) (q b)

-- Section 1.1: the quotient by m, rounded down, of a coordinate of any sign
abbrev pub floor_div : ℕ → ℤ → ℤ
floor_div m (pos n) = pos (n / m)
floor_div m (negsuc n) = negsuc (n / m)

-- Section 1.1: its remainder, which is 0 or above and below m
abbrev pub floor_mod : ℕ → ℤ → ℕ
floor_mod m (pos n) = n % m
floor_mod m (negsuc n) = m - suc (n % m)

-- Section 1.1: m × k + u, the coordinate of quotient k and remainder u
abbrev pub compose : ℕ → ℤ → ℕ → ℤ
compose m k u = pos m *ℤ k +ℤ pos u

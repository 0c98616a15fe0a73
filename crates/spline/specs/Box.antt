-- The box of a net, its numbers by their index and as a list, and a list read as a net: Section 2.4.
use Rattle.std.specs.Prelude.{cond, List, ℕ, ◌+◌, ◌*◌, ◌/◌, ◌%◌, ltb, get_or, ℤ, pos, negsuc}
use Rattle.sums.specs.Fill.{tabulate}
use Rattle.spline.specs.Place.{Axis, a1, a2, a3, Place, place, Net}
use Rattle.spline.specs.Defined.{defined}
use Rattle.spline.specs.Multiplicities.{Multiplicities, degree, extent}

-- Section 2.4: the width Wb of the box on an axis
abbrev pub width : Multiplicities → Axis → ℕ
width v b = degree v * extent v b + 1

-- Section 2.4: the number of its places, W1 × W2 × W3
abbrev pub places : (Axis → ℕ) → ℕ
places W = W a1 * W a2 * W a3

-- Section 2.4: the index of (x, y, z)
abbrev pub index : (Axis → ℕ) → ℕ → ℕ → ℕ → ℕ
index W x y z = x + W a1 * (y + W a2 * z)

-- Section 2.4: the place that has the index i
abbrev pub place_of : (Axis → ℕ) → ℕ → Place
place_of W i = place (pos (i % W a1)) (pos (i / W a1 % W a2)) (pos (i / W a1 / W a2))

-- Section 3.7: the number of the defined net at an index
abbrev pub defined_number : Multiplicities → ℕ → ℕ
defined_number v i = defined v (place_of (width v) i)

-- Section 6.2: the numbers of a net over its box, in index order
unfoldable pub net_list : (Axis → ℕ) → Net → List ℕ
net_list W C = tabulate (λ i. C (place_of W i)) (places W)

-- Section 2.4: f where the coordinate is one of the box, else 0
abbrev pub in_box : ℕ → ℤ → (ℕ → ℕ) → ℕ
in_box w (pos n) f = cond (ltb n w) (f n) 0
in_box w (negsuc n) f = 0

-- Section 14.4: a list read as a net, with zeros outside the box
unfoldable pub spread : (Axis → ℕ) → List ℕ → Net
spread W s q =
    in_box (W a1) (q a1) (λ x.
    in_box (W a2) (q a2) (λ y.
    in_box (W a3) (q a3) (λ z. get_or s (index W x y z) 0)))

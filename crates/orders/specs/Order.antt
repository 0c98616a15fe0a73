-- Orders as bytes: their checks, the net and the box that they lead to. Sections 3.6, 6.1.
use Rattle.std.specs.Prelude.{Bool, ◌&&◌, ◌||◌, not, List, ℕ, leb, ltb, get_or, length}
use Rattle.sums.specs.Search.{first}
use Rattle.spline.specs.Box.{place_of, places, width}
use Rattle.spline.specs.Build.{order_net}
use Rattle.spline.specs.Multiplicities.{order_multiplicities}
use Rattle.spline.specs.Place.{Axis}
use Rattle.checks.specs.Checks.{Checked, and_then, no_refusal, refuse_at, refuse_if}
use Rattle.checks.specs.declared.Refusal.TheVariants.{BadByte, LongOrder, NetRoom}

-- Section 5.3: the condition of 2, for one byte
abbrev pub bad_byte : ℕ → Bool
bad_byte b = not (leb 1 b && leb b 4)

-- Section 6.1: 1, then 2 at the first bad byte
unfoldable pub order_checks : List ℕ → Checked
order_checks order =
    refuse_if LongOrder (ltb 8 (length order))
    (refuse_at BadByte (first (length order) (λ i. bad_byte (get_or order i 0))) no_refusal)

-- Section 2.4: the widths of the box that an order leads to
abbrev pub order_width : List ℕ → Axis → ℕ
order_width order = width (order_multiplicities order)

-- Section 2.4: and its number of places
abbrev pub order_places : List ℕ → ℕ
order_places order = places (order_width order)

-- Section 3.6: the number at an index of what an order builds
abbrev pub order_number : List ℕ → ℕ → ℕ
order_number order i = order_net order (place_of (order_width order) i)

-- Section 6.1: 1, 2, 4, for slices of these lengths
unfoldable pub build_checks : List ℕ → ℕ → ℕ → Checked
build_checks order net_length work_length =
    and_then (order_checks order)
    (refuse_if NetRoom (ltb net_length (order_places order) || ltb work_length (order_places order))
    no_refusal)

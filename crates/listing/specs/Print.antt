-- What program `shares` prints: Section 13.2.
use Rattle.std.specs.Prelude.{List, ◌++◌, ◌%◌, ◌*◌, ◌/◌, ℕ}
use Rattle.spline.specs.Box.{width}
use Rattle.spline.specs.Multiplicities.{Multiplicities, degree, order_multiplicities}
use Rattle.spline.specs.Place.{a1, a2, a3}
use Rattle.text.specs.Text.{joined}
use Rattle.input.specs.Order.{typed_order}
use Rattle.lines.specs.Lines.{header_text, place_text, refused_text}
use Rattle.orders.specs.Order.{build_checks, order_number}
use Rattle.checks.specs.Checks.{number_of, passed_or}

-- Section 13.2: the lines of all places of a box, f being the number at each index
unfoldable pub places_text : ℕ → ℕ → ℕ → (ℕ → ℕ) → List ℕ
places_text w1 w2 w3 f = joined (λ i. place_text (i % w1) (i / w1 % w2) (i / w1 / w2) (f i)) (w1 * w2 * w3)

-- Section 13.2: all that is printed of a net
unfoldable pub net_text : Multiplicities → (ℕ → ℕ) → List ℕ
net_text v f =
    header_text (width v a1) (width v a2) (width v a3) (degree v)
    ++ places_text (width v a1) (width v a2) (width v a3) f

-- Section 13.2: what is printed of an order, built on slices of 9261 places
unfoldable pub printed_order : List ℕ → List ℕ
printed_order order =
    passed_or (build_checks order 9261 9261)
    (net_text (order_multiplicities order) (order_number order))
    (λ r. refused_text (number_of r))

-- Section 13: what is printed where these bytes are typed
unfoldable pub printed : List ℕ → List ℕ
printed typed = printed_order (typed_order typed)

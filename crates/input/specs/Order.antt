-- An order as it is typed: Section 13.1.
use Rattle.std.specs.Prelude.{◌&&◌, cond, List, map, ◌-◌, ℕ, eqb, leb, get_or, length, take}

-- Section 13.1: a digit's number, and for any other byte 0, which 2 refuses
unfoldable pub digit_number : ℕ → ℕ
digit_number b = cond (leb 48 b && leb b 57) (b - 48) 0

-- Section 13.1: how many of the typed bytes are the order's, all but a newline at their end
unfoldable pub order_length : List ℕ → ℕ
order_length typed = cond (eqb (get_or typed (length typed - 1) 0) 10) (length typed - 1) (length typed)

-- Section 13.1: the order
unfoldable pub typed_order : List ℕ → List ℕ
typed_order typed = map digit_number (take (order_length typed) typed)

-- What is printed: by whether the order is served, and by its first bytes.
use mathlib.Core.Bool.{false}
use mathlib.Core.List.{List, ◌++◌, map}
use mathlib.Core.Path.{◌∙◌, ◌≡◌, ap, sym}
use Prim.Native.Nat.{◌%◌, ◌/◌, ◌<◌, ◌≤◌, min, ℕ}
use native.Mathlib.Nat.{le_refl, min-eq_left, min-eq_right}
use native.Mathlib.Omega.{arith}
use borrow.Author.Tests.{lt-ltb}
use lib.ListN.{length, length-append, length-map, take}
use lib.Seq.{length-take-le}
use Rattle.sums.proofs.Cases.{by_order}
use Rattle.spline.specs.Box.{places, width}
use Rattle.spline.specs.Multiplicities.{Multiplicities, degree, order_multiplicities}
use Rattle.spline.specs.Place.{a1, a2, a3}
use Rattle.text.proofs.Puts.{joined-cong}
use Rattle.checks.specs.declared.Refusal.{Refusal}
use Rattle.shape.specs.Shape.{shape_of}
use Rattle.shape.specs.declared.Shape.{Shape}
use Rattle.input.proofs.Orders.{order-bounds, order-length}
use Rattle.input.proofs.Reading.{enough-typed}
use Rattle.input.specs.Order.{digit_number, order_length, typed_order}
use Rattle.input.specs.Reading.{wants_more}
use Rattle.lines.specs.Lines.{header_text, place_text, refused_text}
use Rattle.listing.specs.Print.{net_text, places_text, printed, printed_order}
use Rattle.orders.specs.Order.{build_checks, order_checks, order_number}
use Rattle.std.specs.Prelude.{Err}
use Rattle.checks.specs.Checks.{no_refusal, number_of}
use Rattle.checks.specs.declared.Refusal.TheVariants.{LongOrder}

-- ---- the text of a net
-- only the numbers of the box count
pub net-text-cong : (v : Multiplicities) (f g : ℕ → ℕ) → ((i : ℕ) → i < places (width v) → f i ≡ g i)
    → net_text v f ≡ net_text v g
unfolding net_text places_text
net-text-cong v f g h =
    let w1 = width v a1 in
    let w2 = width v a2 in
    ap (λ (t : List ℕ). header_text w1 w2 (width v a3) (degree v) ++ t)
    (joined-cong _ _ (places (width v))
    (λ i l. ap (place_text (i % w1) (i / w1 % w2) (i / w1 / w2)) (h i l)))

-- the lines of a shape, whose numbers are these
abbrev shape_text : Shape → (ℕ → ℕ) → List ℕ
shape_text s f = header_text s.w1 s.w2 s.w3 s.m ++ places_text s.w1 s.w2 s.w3 f

-- they are the net's where the shape is
pub net-lines : (v : Multiplicities) (f : ℕ → ℕ) (s : Shape) → s ≡ shape_of v → shape_text s f ≡ net_text v f
unfolding net_text
net-lines v f s e = ap (λ (s : Shape). shape_text s f) e

-- ---- served or refused
-- an order that passes the checks prints its net
pub printed-made : (o : List ℕ) → build_checks o 9261 9261 ≡ no_refusal
    → printed_order o ≡ net_text (order_multiplicities o) (order_number o)
unfolding printed_order
printed-made o e = simp e

-- one that a check stops prints the refusal
pub printed-refused : (o : List ℕ) (r : Refusal) → build_checks o 9261 9261 ≡ Err r
    → printed_order o ≡ refused_text (number_of r)
unfolding printed_order
printed-refused o r e = simp e

-- ---- the first bytes decide
long-refused : (o : List ℕ) → 8 < length o → printed_order o ≡ refused_text 1
unfolding order_checks build_checks
long-refused o h = printed-refused o LongOrder (rw (lt-ltb 8 (length o) h))

typed_long : (s : List ℕ) → 8 < order_length s → printed s ≡ refused_text 1
unfolding printed
typed_long s h = long-refused (typed_order s) (omega (arith, order-length s))

-- nine bytes of an order: the first nine print what the whole order prints
pub nine-decide : (s : List ℕ) (n : ℕ) → n ≡ min (order_length s) 9
    → printed_order (map digit_number (take n s)) ≡ printed s
unfolding printed typed_order
nine-decide s n e = by_order 9 (order_length s) long short
  where
    long : 9 < order_length s → printed_order (map digit_number (take n s)) ≡ printed s
    long h =
        let k : n ≡ 9 = e ∙ min-eq_right (omega arith) in
        let b = order-bounds s in
        let t = take n s in
        let nine = length-take-le n s (omega arith) in
        long-refused (map digit_number t) (omega (arith, length-map t digit_number, nine))
        ∙ sym (typed_long s (omega arith))

    short : order_length s ≤ 9 → printed_order (map digit_number (take n s)) ≡ printed s
    short h = ap (λ (k : ℕ). printed_order (map digit_number (take k s))) (e ∙ min-eq_left h)

-- ten bytes of what is typed: where no more are wanted, none that follow change what is printed
pub ten-decide : (s t : List ℕ) → wants_more s ≡ false → printed (s ++ t) ≡ printed s
ten-decide s t e =
    typed_long (s ++ t) (enough-typed s (s ++ t) e (omega (arith, length-append s t)))
    ∙ sym (typed_long s (enough-typed s s e (le_refl (length s))))

-- How long the lines of a net are.
use mathlib.Core.List.{List}
use Prim.Native.Nat.{◌%◌, ◌*◌, ◌+◌, ◌/◌, ◌<◌, ◌≤◌, ℕ}
use native.Mathlib.Omega.{arith}
use lib.ListN.{length, length-append}
use Rattle.sums.proofs.Places.{place_in}
use Rattle.text.proofs.Puts.{joined_length}
use Rattle.text.specs.Text.{joined}
use Rattle.spline.specs.Box.{places, width}
use Rattle.spline.specs.Inner.Limits.{Limits}
use Rattle.spline.specs.Multiplicities.{Multiplicities, degree}
use Rattle.spline.specs.Place.{a1, a2, a3}
use Rattle.shape.proofs.Shapes.{limits-boxed}
use Rattle.lines.proofs.Lengths.{header-length, place-length}
use Rattle.lines.specs.Lines.{header_text, place_text}
use Rattle.listing.specs.Print.{net_text, places_text}

-- the lines of a net within the limits, of numbers of at most six digits
pub net-length : (v : Multiplicities) (f : ℕ → ℕ) → Limits v 12
    → ((i : ℕ) → i < places (width v) → f i < 1000000)
    → length (net_text v f) ≤ 22 + 16 * places (width v)
unfolding net_text places_text
net-length v f l small =
    let w1 = width v a1 in
    let w2 = width v a2 in
    let w3 = width v a3 in
    let b = limits-boxed v l in
    let line : ℕ → List ℕ = λ i. place_text (i % w1) (i / w1 % w2) (i / w1 / w2) (f i) in
    let short : (i : ℕ) → i < places (width v) → length (line i) ≤ 16 = λ i h.
    let p = place_in w1 w2 w3 i h in
    place-length _ _ _ (f i) (omega (arith, p)) (omega (arith, p)) (omega (arith, p)) (small i h) in
    let head = header-length w1 w2 w3 (degree v) (omega arith) (omega arith) (omega arith) (omega arith) in
    omega (
      arith,
      head,
      joined_length line 16 (places (width v)) short,
      length-append (header_text w1 w2 w3 (degree v)) (joined line (places (width v))),
    )

-- `print` meets its contract: at most nine bytes of the order are read, and these decide what is printed.
use mathlib.Core.List.{List, map}
use mathlib.Core.Path.{◌∙◌, ◌≡◌, ap, subst, sym}
use Prim.Native.Nat.{◌≤◌, min, ℕ}
use native.Mathlib.Nat.{le_refl}
use native.Mathlib.Omega.{arith}
use lib.ListN.{get_or, length, take}
use lib.Seq.{length-take-le}
use Rattle.sums.proofs.Fill.{take-filled}
use Rattle.text.proofs.Puts.{put_first, put-length}
use Rattle.text.specs.Put.{Put}
use Rattle.input.proofs.Orders.{numbers-typed, order-bounds}
use Rattle.input.specs.Order.{digit_number, order_length}
use Rattle.listing.proofs.Printed.{nine-decide}
use Rattle.listing.specs.Print.{printed_order}
use Rattle.listing.proofs.print.Goals as goal
use Rattle.listing.proofs.print.Goals.{After-read_order-n}

-- once the order is read
module _ (c : After-read_order-n) where
  abbrev text : List ℕ
  text = c.args.typed.now

  abbrev n : ℕ
  n = c.read_order-n.result

  count : n ≡ min (order_length text) 9
  count = c.read_order-n.ensures.count

  numbers : take n c.read_order-n.new.order ≡ map digit_number (take n text)
  numbers =
      let b = order-bounds text in
      ap (take n) c.read_order-n.ensures.order
      ∙ take-filled (λ (i : ℕ). digit_number (get_or text i 0)) n n _ (le_refl n)
      ∙ numbers-typed text n (omega (arith, count))

pub slice_bounds-print_order-end : goal.slice_bounds-print_order-end
slice_bounds-print_order-end c =
    let here = (goal.at.slice_bounds-print_order-end c).After-read_order-n in
    let o = c.read_order-n in
    sym (length-take-le (n here) o.new.order (omega (arith, count here, o.auto)))

pub returns : goal.returns
returns c =
    let here = (goal.at.returns c).After-read_order-n in
    let p = c.print_order in
    let out = c.args.out.now in
    let e = ap printed_order (numbers here) ∙ nine-decide (text here) (n here) (count here) in
    let t = subst (λ (t : List ℕ). Put t out p.new.out 0 p.result) e p.ensures.0 in
    let fits = ap length e in
    let f = put_first t (omega (arith, p.ensures.1)) in
    let h : p.result ≤ length p.new.out = omega (arith, f.0, p.ensures.1, put-length t) in
    record { length = f.0; text = f.1; counted = (h, sym (length-take-le p.result p.new.out h)) }

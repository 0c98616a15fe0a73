-- `put_net` meets its contract: the shape is the net's, and the places' lines follow the line of the box.
use mathlib.Core.List.{List}
use mathlib.Core.Path.{◌∙◌, ◌≡◌, ap, subst, sym}
use Prim.Native.Nat.{◌*◌, ◌≤◌, ℕ}
use lib.ListN.{get_or, length}
use Rattle.text.proofs.Puts.{put_then}
use Rattle.text.specs.Put.{Put}
use Rattle.spline.specs.Box.{places, width}
use Rattle.unit.specs.Unit.{net_of}
use Rattle.shape.proofs.Shapes.{limits-boxed}
use Rattle.shape.specs.Inner.Boxes.{Boxed}
use Rattle.shape.specs.Shape.{shape_of}
use Rattle.shape.specs.declared.Shape.{Shape}
use Rattle.lines.specs.Lines.{header_text}
use Rattle.listing.proofs.Printed.{net-lines}
use Rattle.listing.specs.Print.{places_text}
use Rattle.listing.proofs.put_net.Goals as goal
use Rattle.listing.proofs.put_net.Goals.{After-shape_of-s}

-- once the shape is computed
module _ (c : After-shape_of-s) where
  abbrev found : Shape
  found = c.shape_of-s.result

  shape_is : found ≡ shape_of (net_of c.args.unit)
  shape_is = c.shape_of-s.ensures.value ∙ ap shape_of c.of_unit.ensures

  boxed : Boxed found
  boxed = subst Boxed (sym shape_is) (limits-boxed (net_of c.args.unit) c.requires.limits)

  abbrev header : List ℕ
  header = header_text found.w1 found.w2 found.w3 found.m

  same-places : found.w1 * found.w2 * found.w3 ≡ places (width (net_of c.args.unit))
  same-places = ap (λ (s : Shape). s.w1 * s.w2 * s.w3) shape_is

pub put_places-requires : goal.put_places-requires
put_places-requires c =
    let here = (goal.at.put_places-requires c).After-shape_of-s in
    record {
      most1 = (boxed here).most1;
      most2 = (boxed here).most2;
      most3 = (boxed here).most3;
      held = subst (λ (n : ℕ). n ≤ length c.args.net.now) (sym (same-places here)) c.requires.held;
    }

pub returns : goal.returns
returns c =
    let here = (goal.at.returns c).After-shape_of-s in
    let h = c.put_header-at.ensures in
    let p = c.put_places in
    let f : ℕ → ℕ = λ i. get_or c.args.net.now i 0 in
    let lines = places_text (found here).w1 (found here).w2 (found here).w3 f in
    subst (λ (t : List ℕ). Put t c.args.out.now p.new.out 0 p.result)
    (net-lines (net_of c.args.unit) f (found here) (shape_is here))
    (put_then {u = header here} {v = lines} h p.ensures)

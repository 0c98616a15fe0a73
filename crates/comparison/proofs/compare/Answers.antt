-- Slices that hold the box are compared.
use mathlib.Core.Path.{◌∙◌, sym}
use lib.ListN.{length}
use Rattle.shape.proofs.Shapes.{held-limits}
use Rattle.comparison.proofs.compare.Goals as goal

pub first_differing-requires : goal.first_differing-requires
first_differing-requires c =
    let a = c.args in
    let net = sym c.is_held.ensures ∙ c.if-not-is_held.false in
    let defined = sym c.is_held-else-not-is_held.ensures ∙ c.if-not-is_held-2.false in
    let n = held-limits a.s (length a.net.now) net in
    let m = held-limits a.s (length a.defined.now) defined in
    (n.boxed, n.room, m.room)

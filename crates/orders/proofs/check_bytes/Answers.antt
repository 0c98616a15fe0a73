-- No byte before byte i is bad; the first that is, is what the check refuses.
use mathlib.Core.Bool.{false, true}
use mathlib.Core.Logic.{⊎_elim}
use mathlib.Core.Path.{◌≡◌, refl}
use Prim.Native.Nat.{◌<◌, ◌≤◌}
use native.Mathlib.Omega.{arith}
use borrow.Author.Tests.{le-leb, lt-leb}
use lib.ListN.{get_or, length}
use Rattle.sums.proofs.Search.{first-hit, first-none, first-zero}
use Rattle.orders.specs.Order.{bad_byte}
use Rattle.orders.proofs.check_bytes.Goals as goal
use Rattle.orders.proofs.check_bytes.Invariants.{bad}

pub loop-i-init : goal.loop-i-init
loop-i-init c = first-zero _

pub returns-then-byte-lt1 : goal.returns-then-byte-lt1
returns-then-byte-lt1 c =
    let o = c.args.order.now in
    let l = c.loop-i in
    let b = get_or o l.i 0 in
    let e : bad_byte b ≡ true = ⊎_elim
    (λ (h : b < 1). rw (lt-leb 1 b h) refl)
    (λ (h : (1 ≤ b) × (4 < b)). rw (le-leb 1 b h.0, lt-leb b 4 h.1) refl)
    c.then-byte-lt1.either in
    simp (first-hit (bad o) (length o) l.i l.invariant e (omega arith))

pub loop-i-preserved : goal.loop-i-preserved
loop-i-preserved c =
    let o = c.args.order.now in
    let l = c.loop-i in
    let b = get_or o l.i 0 in
    let e : bad o l.i ≡ false = rw (le-leb 1 b (omega arith), le-leb b 4 (omega arith)) in
    first-none (bad o) l.i l.invariant e

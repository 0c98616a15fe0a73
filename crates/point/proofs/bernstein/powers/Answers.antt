-- The next power is one of those that the caller bounds.
use mathlib.Core.Path.{◌≡◌, refl}
use Prim.Native.Nat.{◌*◌, ◌+◌, ◌^◌}
use native.Mathlib.Nat.{pow-suc}
use native.Mathlib.Numerals.{add-one}
use native.Mathlib.Omega.{arith}
use lib.ListN.{get_or}
use Rattle.point.proofs.bernstein.powers.Goals as goal

pub overflow_mul-p : goal.overflow_mul-p
overflow_mul-p c =
    let at = c.loop-i in
    let base = c.args.base in
    let next : get_or at.p at.i 0 * base ≡ base ^ (at.i + 1)
    = rw (add-one at.i, pow-suc base at.i, at.invariant.1 at.i (omega arith)) refl in
    omega (arith, next, c.requires.1 (at.i + 1) (omega arith))

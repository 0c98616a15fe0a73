-- The line of a place more is put. At the end there is one for each place.
use mathlib.Core.Path.{◌≡◌, subst}
use Prim.Native.Nat.{◌*◌, ◌<◌, ℕ}
use native.Mathlib.Omega.{arith}
use lib.ListN.{length-take}
use Rattle.std.proofs.lemmas.List.{get_or-take}
use Rattle.text.proofs.Puts.{put-joined-next, put-joined-none}
use Rattle.text.specs.Put.{Put}
use Rattle.text.specs.Text.{joined}
use Rattle.listing.specs.Print.{places_text}
use Rattle.listing.proofs.put_places.Goals as goal
use Rattle.listing.proofs.put_places.Invariants.{line}

pub loop-i-init : goal.loop-i-init
loop-i-init c =
    let a = c.args in
    put-joined-none (line a.net.now a.w1 a.w2) a.out.now a.start

pub loop-i-preserved : goal.loop-i-preserved
loop-i-preserved c =
    let a = c.args in
    let l = c.loop-i in
    let n = a.w1 * a.w2 * a.w3 in
    let inside : l.i < n = omega (arith, length-take n a.net.now) in
    put-joined-next (line a.net.now a.w1 a.w2) l.i l.invariant
    (rw (get_or-take n a.net.now l.i 0 inside) at c.put_place-at.ensures)

pub returns : goal.returns
unfolding places_text
returns c =
    let a = c.args in
    let l = c.loop-i in
    let n = a.w1 * a.w2 * a.w3 in
    let all : l.i ≡ n = omega (arith, length-take n a.net.now, c.requires.held) in
    subst (λ (n : ℕ). Put (joined (line a.net.now a.w1 a.w2) n) a.out.now l.out a.start l.at) all l.invariant

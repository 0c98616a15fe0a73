-- The order is checked first; past that, its places are counted and compared with the two lengths.
use mathlib.Core.Bool.{◌||◌, true}
use mathlib.Core.Logic.{◌⊎◌, ⊎_elim}
use mathlib.Core.Path.{◌∙◌, ◌≡◌, ap, refl, sym}
use Prim.Native.Nat.{◌<◌, ◌≤◌, ℕ}
use native.Mathlib.Omega.{arith}
use borrow.Author.Tests.{le-ltb, lt-ltb}
use lib.Dec.{ltb}
use Rattle.spline.specs.Box.{places, width}
use Rattle.spline.specs.Multiplicities.{Multiplicities}
use Rattle.checks.specs.Checks.{no_refusal}
use Rattle.orders.proofs.Accepted.{order-accepted}
use Rattle.orders.specs.Order.{build_checks, order_checks, order_places}
use Rattle.orders.proofs.check_build.Goals as goal
use Rattle.orders.proofs.check_build.Goals.{After-places_of-n}

-- a slice of two is too short
one-short : (a b n : ℕ) → (a < n) ⊎ ((n ≤ a) × (b < n)) → (ltb a n || ltb b n) ≡ true
one-short a b n = ⊎_elim
    (λ (h : a < n). rw (lt-ltb a n h) refl)
    (λ (h : (n ≤ a) × (b < n)). rw (le-ltb a n h.0, lt-ltb b n h.1) refl)

-- the places of its box have been counted
module _ (c : After-places_of-n) where
  passed : order_checks c.args.order.now ≡ no_refusal
  passed = sym c.check_order.ensures ∙ c.in_ok-check_order.was

  abbrev n : ℕ
  n = order_places c.args.order.now

  room : c.places_of-n.result ≡ n
  room =
      c.places_of-n.ensures
      ∙ ap (λ (v : Multiplicities). places (width v)) c.counts_of.ensures.0

pub counts_of-requires : goal.counts_of-requires
counts_of-requires c = order-accepted _ (sym c.check_order.ensures ∙ c.in_ok-check_order.was)

pub returns-then-net-n : goal.returns-then-net-n
unfolding build_checks
returns-then-net-n c =
    let r = (goal.at.returns-then-net-n c).After-places_of-n in
    simp (passed r, one-short c.args.net c.args.work (n r) (rw (room r) at c.then-net-n.either))

pub returns : goal.returns
unfolding build_checks
returns c =
    let r = (goal.at.returns c).After-places_of-n in
    let f : n r ≤ c.args.net = omega (arith, room r) in
    let g : n r ≤ c.args.work = omega (arith, room r) in
    simp (passed r, le-ltb c.args.net (n r) f, le-ltb c.args.work (n r) g)

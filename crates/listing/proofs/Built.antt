-- What a build for a listing has left: a unit and a slice that can be listed.
use mathlib.Core.List.{List, ◌++◌, map}
use mathlib.Core.Path.{◌∙◌, ◌≡◌, ap, sym}
use Prim.Native.Nat.{◌+◌, ◌<◌, ◌≤◌, ℕ}
use native.Mathlib.Omega.{arith}
use lib.ListN.{get_or-append, drop, get_or, length, length-append, length-map}
use Rattle.spline.proofs.Box.{length-net_list, net_list-at}
use Rattle.spline.proofs.Multiplicities.{order-degree, order-positive}
use Rattle.spline.specs.Box.{net_list, place_of}
use Rattle.spline.specs.Build.{direction, order_net}
use Rattle.spline.specs.Inner.Limits.{Limits}
use Rattle.spline.specs.Multiplicities.{order_multiplicities}
use Rattle.unit.specs.Unit.{empty_unit, with_net}
use Rattle.orders.proofs.Accepted.{BuildAccepted, build-accepted}
use Rattle.builds.proofs.OrderNets.{order-at-most}
use Rattle.builds.specs.Build.{build_net}
use Rattle.orders.specs.Order.{build_checks, order_number, order_places, order_width}
use Rattle.listing.proofs.Lengths.{net-length}
use Rattle.listing.proofs.Printed.{net-text-cong, printed-made}
use Rattle.listing.specs.Inner.Fit.{Listed}
use Rattle.listing.specs.Print.{net_text, printed_order}
use Rattle.checks.specs.Checks.{no_refusal}

-- ---- the slice and the unit
module _
    (o : List ℕ)
    (passed : build_checks o 9261 9261 ≡ no_refusal)
    (before net : List ℕ)
    (long : length before ≡ 9261)
    (built : net ≡ build_net o before 9261) where
  taken : BuildAccepted o 9261 9261
  taken = build-accepted o 9261 9261 passed

  abbrev numbers : List ℕ
  numbers = net_list (order_width o) (order_net o)

  holds : net ≡ numbers ++ drop (order_places o) before
  unfolding build_net
  holds = built ∙ simp (long, passed)

  number_at : (i : ℕ) → i < order_places o → get_or net i 0 ≡ order_number o i
  number_at i h =
      ap (λ (s : List ℕ). get_or s i 0) holds
      ∙ get_or-append numbers _ 0 i (omega (arith, length-net_list (order_width o) (order_net o)))
      ∙ net_list-at (order_width o) (order_net o) i h

  limits : Limits (order_multiplicities o) 12
  limits =
      let p = order-positive (map direction o) in
      let t = taken in
      let v = order_multiplicities o in
      let at_most : v.v1 + v.v2 + v.v3 + v.v4 ≤ 12 =
      omega (arith, order-degree (map direction o), length-map o direction, t.good.short) in
      record { least1 = p.p1; least2 = p.p2; least3 = p.p3; least4 = p.p4; sum = at_most }

  -- it is within what the lines are written for
  pub listed : Listed (with_net empty_unit (order_multiplicities o)) net
  listed =
      let n = length-net_list (order_width o) (order_net o) in
      let rest = drop (order_places o) before in
      record { limits = limits; held = omega (arith, ap length holds, length-append numbers rest, n) }

  -- its lines are what is printed for the order
  pub listed-text : net_text (order_multiplicities o) (λ i. get_or net i 0) ≡ printed_order o
  listed-text =
      net-text-cong (order_multiplicities o) (λ i. get_or net i 0) (order_number o) number_at
      ∙ sym (printed-made o passed)

  -- and have room in a slice for 9261 places
  pub listed-length : length (printed_order o) ≤ 148198
  listed-length =
      let small : (i : ℕ) → i < order_places o → order_number o i < 1000000 =
      λ i l. omega (arith, order-at-most o taken.good.short (place_of (order_width o) i)) in
      let n = net-length (order_multiplicities o) (order_number o) limits small in
      omega (arith, ap length (printed-made o passed), taken.net-room)

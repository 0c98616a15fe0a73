-- Allowed multiplicities, with a repeat or with none, and the net that they define with none.
use mathlib.Core.Path.{◌≡◌, ap}
use Prim.Native.Nat.{◌≤◌}
use native.Mathlib.Omega.{arith}
use Rattle.sums.proofs.Cases.{by_order}
use Rattle.spline.proofs.Multiplicities.{Positive, multiplicities-ext}
use Rattle.spline.specs.Build.{built, simple}
use Rattle.spline.specs.Defined.{defined, defined_order}
use Rattle.spline.specs.Multiplicities.{HasRepeat, Multiplicities, multiplicities, multiplicity}
use Rattle.spline.specs.Place.{Direction, a1, a2, a3, along, diagonal}

-- a direction with a repeat, or none
pub repeat-or-none : (v : Multiplicities) → Dec ((d : Direction) × HasRepeat d v)
repeat-or-none v =
    by_order 1 v.v1 (λ l. yes (along a1, l)) (λ l1.
    by_order 1 v.v2 (λ l. yes (along a2, l)) (λ l2.
    by_order 1 v.v3 (λ l. yes (along a3, l)) (λ l3.
    by_order 1 v.v4 (λ l. yes (diagonal, l)) (λ l4. no (none l1 l2 l3 l4)))))
  where
    none : v.v1 ≤ 1 → v.v2 ≤ 1 → v.v3 ≤ 1 → v.v4 ≤ 1 → (d : Direction) × HasRepeat d v → ⊥
    none l1 l2 l3 l4 (along a1, h) = omega arith
    none l1 l2 l3 l4 (along a2, h) = omega arith
    none l1 l2 l3 l4 (along a3, h) = omega arith
    none l1 l2 l3 l4 (diagonal, h) = omega arith

-- with no repeat the defined net is the simple one
pub plain-defined : (v : Multiplicities) → Positive v → ((d : Direction) → HasRepeat d v → ⊥)
    → defined v ≡ simple
unfolding defined defined_order built
plain-defined v p none = ap defined (multiplicities-ext v (multiplicities 1 1 1 1) one)
  where
    one : (d : Direction) → multiplicity d v ≡ multiplicity d (multiplicities 1 1 1 1)
    one (along a1) = by_order 1 v.v1 (λ l. absurd (none (along a1) l)) (λ l. omega (arith, p))
    one (along a2) = by_order 1 v.v2 (λ l. absurd (none (along a2) l)) (λ l. omega (arith, p))
    one (along a3) = by_order 1 v.v3 (λ l. absurd (none (along a3) l)) (λ l. omega (arith, p))
    one diagonal = by_order 1 v.v4 (λ l. absurd (none diagonal l)) (λ l. omega (arith, p))

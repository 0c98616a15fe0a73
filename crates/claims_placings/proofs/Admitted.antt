-- Check 12 by coordinates, axis by axis.
use mathlib.Core.Bool.{true}
use mathlib.Core.Logic.{◌↔◌}
use mathlib.Core.Path.{◌≡◌, refl}
use Prim.Native.Nat.{◌*◌, ◌+◌, ◌≤◌, ℕ}
use native.Mathlib.Omega.{arith}
use lib.IntN.{◌*ℤ◌, ◌+ℤ◌, ◌-ℤ◌, nat_abs, negsuc, pos, ℤ}
use lib.Signed.{◌≤ℤ◌, non_neg}
use Rattle.sums.proofs.Search.{false-true}
use Rattle.sums.proofs.Signed.{Is, down, is-add, is-diff, is_le, is_mul, is_pos, le_is, own, up}
use Rattle.spline.specs.Multiplicities.{extent}
use Rattle.spline.specs.Place.{a1, a2, a3}
use Rattle.unit.proofs.Limits.{block-limits}
use Rattle.unit.specs.Unit.{net_of, sizes}
use Rattle.limits.proofs.Accepted.{equipped}
use Rattle.divisor_checks.proofs.Accepted.{divisor-accepted}
use Rattle.coordinates.specs.Coordinates.{distance, from_origin, located, sign_check}
use Rattle.cell_checks.specs.Inside.{cell_check, inside_on}
use Rattle.placing.proofs.Cells.{coordinate-inside, inside-axes}
use Rattle.placing.proofs.Placed.{point-accepted}
use Rattle.placing.specs.Place.{inside_check, position_checks}
use Rattle.placing.specs.Placing.{cells}
use Rattle.claims_placings.specs.Inside.{Admitted, CoordinateInside}

module _ (E n : ℕ) (o x : ℤ) (D : ℕ) (some : 1 ≤ D) (least : 1 ≤ n) where
  -- k entries past the origin
  end : (k : ℕ) → Is ((o +ℤ pos k) *ℤ pos D) ((up o + k) * D) (down o * D)
  end k = let e = is_mul (is-add (own o) (is_pos k)) (is_pos D) in omega (arith, e.is)

  -- a coordinate that is t past the origin compares with such an end as t does with k×D
  module _ (t : ℕ) (e : Is (pos t) (up x + down o * D) (down x + up o * D)) where
    past : (k : ℕ) → k * D ≤ t → ((o +ℤ pos k) *ℤ pos D) ≤ℤ x
    past k h = le_is (end k) (own x) (omega (arith, e.is, h))

    past_back : (k : ℕ) → ((o +ℤ pos k) *ℤ pos D) ≤ℤ x → k * D ≤ t
    past_back k h = let l = is_le h (end k) (own x) in omega (arith, e.is, l)

    up_to : (k : ℕ) → t ≤ k * D → x ≤ℤ ((o +ℤ pos k) *ℤ pos D)
    up_to k h = le_is (own x) (end k) (omega (arith, e.is, h))

    up-to-back : (k : ℕ) → x ≤ℤ ((o +ℤ pos k) *ℤ pos D) → t ≤ k * D
    up-to-back k h = let l = is_le h (own x) (end k) in omega (arith, e.is, l)

  -- one that is read as t is inside where t is not negative and its cell is
  read-inside : (t : ℤ) → Is t (up x + down o * D) (down x + up o * D)
      → ((non_neg t ≡ true) × (inside_on E n (located (nat_abs t) D n).cell ≡ true))
      ↔ CoordinateInside E n o x D
  read-inside (pos t) e =
      let inside = coordinate-inside E n t D some least in (
        λ h.
            let i = inside.0 h.1 in
            (omega arith, past t e _ (omega (arith, i.1)), up_to t e _ (omega (arith, i.2))),
        λ h.
            let near = past_back t e _ h.1 in
            let far = up-to-back t e _ h.2 in
            (refl, inside.1 (omega arith, omega (arith, near), omega (arith, far))),
      )
  read-inside (negsuc t) e = (
    λ h. absurd (false-true h.0),
    λ h. let near = is_le h.1 (end _) (own x) in absurd (omega (arith, e.is, near)),
  )

  axis-inside : ((non_neg (from_origin x o D) ≡ true)
      × (inside_on E n (located (distance x o D) D n).cell ≡ true))
      ↔ CoordinateInside E n o x D
  unfolding from_origin
  axis-inside =
      let e = is-diff (own x) (is_mul (own o) (is_pos D)) in
      read-inside (x -ℤ o *ℤ pos D) (omega (arith, e.is))

pub admitted : Admitted
unfolding position_checks inside_check sign_check cell_check
admitted u x y z D unit divisor =
    let some = (divisor-accepted (net_of u) D divisor).some in
    let n = (block-limits u (equipped u unit).block_held).limits in
    let E = extent (net_of u) in
    let axis1 = axis-inside (E a1) u.n1 u.o1 x D some n.least1 in
    let axis2 = axis-inside (E a2) u.n2 u.o2 y D some n.least2 in
    let axis3 = axis-inside (E a3) u.n3 u.o3 z D some n.least3 in
    let all = inside-axes (net_of u) (sizes u) (cells u x y z D) in (
      λ h.
          let accepted = point-accepted u x y z D h in
          let past = accepted.past-origin in
          let i = all.0 accepted.point_inside in
          (axis1.0 (past.first, i.0), axis2.0 (past.second, i.1), axis3.0 (past.third, i.2)),
      λ h.
          let i1 = axis1.1 h.0 in
          let i2 = axis2.1 h.1 in
          let i3 = axis3.1 h.2 in
          simp (divisor, i1.0, i2.0, i3.0, all.1 (i1.1, i2.1, i3.1)),
    )

-- A net slice that holds the defined net: its shares over a window add up to m! at every local place.
use mathlib.Core.Bool.{true}
use mathlib.Core.List.{List}
use mathlib.Core.Path.{◌∙◌, ◌≡◌, ap, sym}
use Prim.Native.Nat.{◌*◌, ◌+◌, ◌-◌, ◌<◌, ◌≤◌, suc, ℕ}
use native.Mathlib.Nat.{mul-le-mul_left}
use native.Mathlib.Omega.{arith}
use borrow.Author.Tests.{eq-eqb}
use lib.IntN.{pos}
use lib.ListN.{get_or, length}
use lib.Seq.{get_or-take}
use Rattle.sums.proofs.Places.{index_in}
use Rattle.sums.proofs.Search.{all_from}
use Rattle.sums.proofs.Sum.{sum_box-cong}
use Rattle.sums.specs.Coefficient.{factorial}
use Rattle.sums.specs.Fill.{number_at}
use Rattle.spline.proofs.Box.{net_list-at, place_of-index}
use Rattle.spline.proofs.Multiplicities.{Positive}
use Rattle.spline.proofs.Shares.{shares-add-up}
use Rattle.spline.specs.Box.{index, places, width}
use Rattle.spline.specs.Defined.{defined}
use Rattle.spline.specs.Multiplicities.{Multiplicities, degree, extent}
use Rattle.spline.specs.Place.{Axis, a1, a2, a3, place}
use Rattle.axis_order.specs.declared.Placing.{Placing}
use Rattle.claims_rule.specs.Rule.{HoldsDefined}
use Rattle.blended.proofs.LocalPlaces.{local-le}
use Rattle.blended.specs.Blending.{adds_up, all_simplex, local_place, share, share_sum}

module _ (v : Multiplicities) (p : Positive v) (net : List ℕ)
    (room : places (width v) ≤ length net) (h : HoldsDefined v net) where
  -- a number of the slice at a place of the box
  number_is : (x y z : ℕ) → x < width v a1 → y < width v a2 → z < width v a3
      → get_or net (index (width v) x y z) 0 ≡ defined v (place (pos x) (pos y) (pos z))
  number_is x y z lx ly lz =
      let i : ℕ = index (width v) x y z in
      let l : i < places (width v) = index_in (width v a1) (width v a2) (width v a3) x y z lx ly lz in
      sym (get_or-take (places (width v)) net i 0 l)
      ∙ ap (λ (s : List ℕ). get_or s i 0) h
      ∙ net_list-at (width v) (defined v) i l
      ∙ ap (defined v) (place_of-index (width v) x y z lx ly)

  in-width : (b : Axis) (i u : ℕ) → i < extent v b → u ≤ degree v → degree v * i + u < width v b
  in-width b i u l k =
      let e : degree v * suc i ≤ degree v * extent v b = mul-le-mul_left (degree v) l in
      omega arith

  -- the shares of the window add up to m! at a local place
  pub window-shares : (u : Axis → ℕ) → ((b : Axis) → u b ≤ degree v)
      → share_sum v (number_at net) u ≡ factorial (degree v)
  unfolding share_sum share
  window-shares u k =
      let m = degree v in
      sum_box-cong (extent v a1) (extent v a2) (extent v a3) _ _ (λ i1 i2 i3 l1 l2 l3.
      number_is (m * i1 + u a1) (m * i2 + u a2) (m * i3 + u a3)
      (in-width a1 i1 (u a1) l1 (k a1))
      (in-width a2 i2 (u a2) l2 (k a2))
      (in-width a3 i3 (u a3) l3 (k a3)))
      ∙ shares-add-up v p (u a1) (u a2) (u a3) (k a1) (k a2) (k a3)

  -- so 23 does not apply
  pub adds-up : (q : Placing) → adds_up v (number_at net) q ≡ true
  unfolding adds_up all_simplex
  adds-up q =
      all_from (suc (degree v)) _ (λ x lx. all_from (suc x) _ (λ y ly. all_from (suc y) _ (λ z lz.
      eq-eqb _ _
      (window-shares (local_place q (x - y) (y - z) z)
      (local-le q (x - y) (y - z) z (degree v) (omega arith))))))

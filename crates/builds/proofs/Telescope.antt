-- The differences summed from the box's edge are the numbers of the net with a repeat more.
use mathlib.Core.Bool.{Bool, cond, false, true}
use mathlib.Core.List.{List}
use mathlib.Core.Logic.{◌⊎◌, inl, inr}
use mathlib.Core.Path.{◌∙◌, ◌≡◌, ap, ap₂, subst, sym}
use Prim.Native.Nat.{◌%◌, ◌+◌, ◌-◌, ◌/◌, ◌<◌, ◌≤◌, suc, zero, ℕ}
use native.Mathlib.Nat.{le_refl}
use native.Mathlib.Omega.{arith}
use lib.IntN.{+ℤ_comm, +ℤ_idl, -ℤ-+ℤ_cancel, ◌+ℤ◌, ◌-ℤ◌, pos, ℤ}
use lib.ListN.{get_or}
use Rattle.sums.proofs.Cases.{by_order}
use Rattle.sums.proofs.Places.{index_in, place_in}
use Rattle.spline.proofs.Box.{place_of-index}
use Rattle.spline.proofs.Low.{Low, ZeroLow, stepped-low}
use Rattle.spline.proofs.Solution.{stepped-obeys}
use Rattle.spline.proofs.Steps.{⊖⊕}
use Rattle.spline.specs.Box.{index, place_of, places}
use Rattle.spline.specs.Build.{stepped}
use Rattle.spline.specs.Place.{Axis, Direction, Net, Place, ◌⊖◌, a1, a2, a3, down_if, moves, place}
use Rattle.shape.proofs.Directions.{component-some}
use Rattle.edges.proofs.EdgeSums.{edge-inside, edge-outside, step-inside}
use Rattle.differences.specs.Pass.{difference}
use Rattle.edges.specs.Lines.{edge_sum}
use Rattle.shape.specs.Direction.{component}

-- the place of three naturals
abbrev spot : ℕ → ℕ → ℕ → Place
spot x y z = place (pos x) (pos y) (pos z)

module _ (d : Direction) (g : ℕ) (G : Net) (v : ZeroLow G) where
  abbrev C : Net
  C = stepped d g G

  -- one more difference leads from the number before to the number here
  step-up : (q : Place) → pos (C (q ⊖ d)) +ℤ difference d g G q ≡ pos (C q)
  step-up q =
      let here = pos (C q) in
      let before = pos (C (q ⊖ d)) in
      ap (λ (t : ℤ). before +ℤ t) (sym rule)
      ∙ +ℤ_comm before (here -ℤ before)
      ∙ -ℤ-+ℤ_cancel here before
    where
      rule : pos (C q) -ℤ pos (C (q ⊖ d)) ≡ difference d g G q
      rule =
          subst (λ (p : Place). pos (C p) -ℤ pos (C (q ⊖ d)) ≡ difference d g G q) (⊖⊕ q d)
          ((stepped-obeys d g G).rule (q ⊖ d))

  -- at a place from which the next step leaves the box, the difference is the number itself
  at_edge : (q : Place) (b : Axis) → Low ((q ⊖ d) b) → difference d g G q ≡ pos (C q)
  at_edge q b l =
      sym (+ℤ_idl (difference d g G q))
      ∙ ap (λ (n : ℕ). pos n +ℤ difference d g G q) (sym ((stepped-low d g G v).zero_low (q ⊖ d) b l))
      ∙ step-up q

  -- the list holds the differences at the places of the box
  module _ (W : Axis → ℕ) (s : List ℤ)
      (h : (x y z : ℕ) → x < W a1 → y < W a2 → z < W a3
      → get_or s (index W x y z) (pos 0) ≡ difference d g G (spot x y z)) where
    -- at a place of the box the sum from its edge is the number there
    abbrev Summed : ℕ → ℕ → ℕ → Type 0
    Summed x y z = edge_sum d W s (spot x y z) ≡ pos (C (spot x y z))

    edge-sum : (n x y z : ℕ) → x + y + z < n → x < W a1 → y < W a2 → z < W a3 → Summed x y z
    edge-sum zero x y z l lx ly lz = absurd (omega arith)
    edge-sum (suc n) x y z l lx ly lz =
        by_order x (component d a1) (λ k. out a1 (inl k) (gone x (moves d a1) k))
        (λ k1. by_order y (component d a2) (λ k. out a2 (inr (inl k)) (gone y (moves d a2) k))
        (λ k2. by_order z (component d a3) (λ k. out a3 (inr (inr k)) (gone z (moves d a3) k))
        (λ k3. inside k1 k2 k3
        (edge-sum n (x - component d a1) (y - component d a2) (z - component d a3)
        (omega (arith, component-some d)) (omega arith) (omega arith) (omega arith)))))
      where
        gone : (t : ℕ) (m : Bool) → t < cond m 1 0 → Low (down_if m (pos t))
        gone zero true k = tt
        gone (suc t) true k = absurd (omega arith)
        gone t false k = absurd (omega arith)

        out : (b : Axis) → (x < component d a1) ⊎ (y < component d a2) ⊎ (z < component d a3)
            → Low ((spot x y z ⊖ d) b) → Summed x y z
        out b k e =
            edge-outside d W s x y z k
            ∙ h x y z lx ly lz
            ∙ at_edge (spot x y z) b e

        inside : component d a1 ≤ x → component d a2 ≤ y → component d a3 ≤ z
            → Summed (x - component d a1) (y - component d a2) (z - component d a3) → Summed x y z
        inside k1 k2 k3 before =
            edge-inside d W s x y z k1 k2 k3
            ∙ ap₂ (λ (a b : ℤ). a +ℤ b) before (h x y z lx ly lz)
            ∙ ap (λ (p : Place). pos (C p) +ℤ difference d g G (spot x y z))
            (sym (step-inside d W s x y z k1 k2 k3))
            ∙ step-up (spot x y z)

  -- where a list holds the differences at every index of the box, their sums from its edge are the numbers
  pub edge-sum-at : (W : Axis → ℕ) (s : List ℤ)
      → ((i : ℕ) → i < places W → get_or s i (pos 0) ≡ difference d g G (place_of W i))
      → (i : ℕ) → i < places W → edge_sum d W s (place_of W i) ≡ pos (C (place_of W i))
  edge-sum-at W s h i l =
      let p = place_in (W a1) (W a2) (W a3) i l in
      edge-sum W s
      (λ x y z lx ly lz. h (index W x y z) (index_in (W a1) (W a2) (W a3) x y z lx ly lz)
      ∙ ap (difference d g G) (place_of-index W x y z lx ly))
      _ (i % W a1) (i / W a1 % W a2) (i / W a1 / W a2) (le_refl _) p.0 p.1 p.2

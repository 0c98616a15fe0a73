-- The checks of an inspection, past 3 and 4.
use mathlib.Core.Bool.{Bool, ◌||◌, false, not, true}
use mathlib.Core.List.{List}
use mathlib.Core.Path.{◌∙◌, ◌≡◌, ap, subst, sym}
use Prim.Native.Nat.{◌<◌, ◌≤◌, ℕ}
use native.Mathlib.Omega.{arith}
use borrow.Author.Tests.{ltb-false, not-false}
use lib.Dec.{eqb, ltb}
use lib.ListN.{get_or, length}
use Rattle.sums.proofs.Fill.{filled_at, length-filled}
use Rattle.sums.proofs.Search.{first_cong}
use Rattle.sums.specs.Fill.{filled}
use Rattle.sums.specs.Search.{first}
use Rattle.spline.specs.Box.{defined_number, places, width}
use Rattle.spline.specs.Inner.Limits.{Limits}
use Rattle.spline.specs.Multiplicities.{Multiplicities, allowed}
use Rattle.spline.specs.Place.{Axis}
use Rattle.checks.proofs.Checks.{if-passed, or-false}
use Rattle.allowed.proofs.Limits.{allowed-limits}
use Rattle.shape.proofs.Shapes.{limits-boxed, limits-held, shape-widths}
use Rattle.shape.specs.Shape.{held_in, shape_of, widths}
use Rattle.inspection_checks.specs.Room.{shorter}
use Rattle.comparison.specs.Compare.{comparison, differs, differs_from}
use Rattle.inspection.specs.Inspect.{inspect_checks}
use Rattle.checks.specs.Checks.{Checked, no_refusal, refuse_at, refuse_if}
use Rattle.checks.specs.declared.Refusal.TheVariants.{BadMultiplicities, Differing, NetRoom}

-- an inspection of a net, with these slices
module _ (v : Multiplicities) (net defined : List ℕ) (work_length : ℕ) where
  abbrev n : ℕ
  n = places (width v)

  abbrev short : Bool
  short = shorter (length net) (length defined) work_length n

  -- 3 and 4
  abbrev pub given : Checked
  given = refuse_if BadMultiplicities (not (allowed v)) (refuse_if NetRoom short no_refusal)

  -- both have passed
  module _ (h : given ≡ no_refusal) where
    both : (not (allowed v) ≡ false) × (refuse_if NetRoom short no_refusal ≡ no_refusal)
    both = if-passed BadMultiplicities (not (allowed v)) (refuse_if NetRoom short no_refusal) h

    fine : allowed v ≡ true
    fine = not-false _ both.0

    none : short ≡ false
    none = (if-passed NetRoom short no_refusal both.1).0

    -- the multiplicities are within their limits
    pub given-limits : Limits v 12
    given-limits = allowed-limits v fine

    -- the slices are long enough
    pub rooms : (n ≤ length net) × (n ≤ length defined) × (n ≤ work_length)
    rooms =
        let e = or-false (ltb (length net) n || ltb (length defined) n) _ none in
        let f = or-false (ltb (length net) n) _ e.0 in
        (ltb-false _ _ f.0, ltb-false _ _ f.1, ltb-false _ _ e.1)

    held : (m : ℕ) → n ≤ m → held_in (shape_of v) m ≡ true
    held m l =
        limits-held (shape_of v) m (limits-boxed v given-limits)
        (subst (λ (W : Axis → ℕ). places W ≤ m) (sym (shape-widths v)) l)

    -- the defined net is laid in its slice
    module _ (laid : List ℕ) (is : laid ≡ filled (defined_number v) n defined) where
      -- the slice keeps its length
      pub laid-length : length laid ≡ length defined
      laid-length = ap length is ∙ length-filled (defined_number v) n defined rooms.1

      laid-at : (i : ℕ) → i < n → get_or laid i 0 ≡ defined_number v i
      laid-at i r = ap (λ (l : List ℕ). get_or l i 0) is ∙ filled_at (defined_number v) n defined i 0 r

      -- what differs from it is what differs from the defined net
      found : refuse_at Differing (first (places (widths (shape_of v))) (differs net laid)) no_refusal
          ≡ refuse_at Differing (first n (differs_from (defined_number v) net)) no_refusal
      found =
          ap (λ (W : Axis → ℕ). refuse_at Differing (first (places W) (differs net laid)) no_refusal)
          (shape-widths v)
          ∙ ap (λ f. refuse_at Differing f no_refusal)
          (first_cong n _ _ (λ i r. ap (λ (k : ℕ). not (eqb (get_or net i 0) k)) (laid-at i r)))

      -- so the comparison with it is what is left of the checks
      pub compared : comparison (shape_of v) net laid ≡ inspect_checks v net (length defined) work_length
      unfolding comparison inspect_checks
      compared =
          let ours = held (length net) rooms.0 in
          let theirs = held (length laid) (omega (arith, rooms.1, laid-length)) in
          simp (ours, theirs, ap not fine, none) found

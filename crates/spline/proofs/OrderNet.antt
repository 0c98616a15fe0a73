-- What an order builds: its support, its largest number, and its partition of unity.
use mathlib.Core.List.{List, [], ◌++◌, ◌∷◌}
use mathlib.Core.Path.{◌∙◌, ◌≡◌, ap, subst, sym}
use Prim.Native.Nat.{◌+◌, ◌≤◌, suc, ℕ}
use native.Mathlib.Omega.{arith}
use lib.ListN.{length}
use Rattle.sums.specs.Coefficient.{factorial}
use Rattle.spline.proofs.Low.{ZeroLow, built-low, simple-low}
use Rattle.spline.proofs.Multiplicities.{order-degree, order-extents}
use Rattle.spline.proofs.SimpleUnity.{simple-unity}
use Rattle.spline.proofs.Support.{ZeroHigh, built-high, built-le, extents, simple-high, simple-le}
use Rattle.spline.proofs.Unity.{Unity, built-unity}
use Rattle.spline.specs.Build.{built, simple, stepped}
use Rattle.spline.specs.Multiplicities.{Multiplicities, degree, extent, multiplicities_of}
use Rattle.spline.specs.Place.{Axis, Direction, Net, Place}

-- one direction more at the end is one step more
pub built-snoc : (ds : List Direction) (d : Direction) (g : ℕ) (G : Net)
    → built (ds ++ (d ∷ [])) g G ≡ stepped d (g + length ds) (built ds g G)
unfolding built
built-snoc [] d g G = let e : g ≡ g + 0 = omega arith in ap (λ (m : ℕ). stepped d m G) e
built-snoc (x ∷ ds) d g G =
    let e : suc g + length ds ≡ g + suc (length ds) = omega arith in
    built-snoc ds d (suc g) (stepped x g G) ∙ ap (λ (m : ℕ). stepped d m (built ds (suc g) (stepped x g G))) e

module _ (ds : List Direction) where
  abbrev v : Multiplicities
  v = multiplicities_of ds

  abbrev C : Net
  C = built ds 1 simple

  -- it is 0 where a coordinate is not positive
  pub order-low : ZeroLow C
  order-low = built-low ds 1 simple simple-low

  -- and from the extents of its box on
  pub order-high : ZeroHigh (degree v) (extent v) C
  order-high =
      subst (λ (E : Axis → ℕ). ZeroHigh (degree v) E C) (order-extents ds)
      (subst (λ (m : ℕ). ZeroHigh m (extents ds (λ b. 2)) C) (sym (order-degree ds))
      (built-high ds 1 (λ b. 2) simple simple-high))

  -- no number is above m!
  pub order_le : (q : Place) → C q ≤ factorial (degree v)
  order_le q = subst (λ (m : ℕ). C q ≤ factorial m) (sym (order-degree ds)) (built-le ds 1 simple simple-le q)

  -- its numbers a whole degree apart add up to m!
  pub order-unity : Unity (degree v) (extent v) (factorial (degree v)) C
  order-unity =
      subst (λ (E : Axis → ℕ). Unity (degree v) E (factorial (degree v)) C) (order-extents ds)
      (subst (λ (m : ℕ). Unity m (extents ds (λ b. 2)) (factorial m) C) (sym (order-degree ds))
      (built-unity ds 1 (λ b. 2) simple simple-unity))

-- Multiplicities with a repeat more or fewer, and those of an order.
use mathlib.Core.Bool.{Bool, cond, false, true}
use mathlib.Core.List.{List, [], ◌++◌, ◌∷◌}
use mathlib.Core.Path.{◌∙◌, ◌≡◌, ap, fun_ext, refl, sym}
use Prim.Native.Nat.{◌+◌, ◌≤◌, suc, ℕ}
use native.Mathlib.Omega.{arith}
use lib.ListN.{length}
use Rattle.spline.proofs.Support.{extents, wider}
use Rattle.spline.specs.Inner.Limits.{Limits}
use Rattle.spline.specs.Multiplicities.{HasRepeat, Multiplicities, count, degree, extent, fewer, more}
use Rattle.spline.specs.Multiplicities.{multiplicities, multiplicities_of, multiplicity, same_direction}
use Rattle.spline.specs.Place.{Axis, Direction, a1, a2, a3, along, diagonal}

-- each multiplicity is at least 1
pub record Positive (v : Multiplicities) : Type 0 where
  pub p1 : 1 ≤ v.v1
  pub p2 : 1 ≤ v.v2
  pub p3 : 1 ≤ v.v3
  pub p4 : 1 ≤ v.v4

-- those within the limits are
pub limits-positive : {v : Multiplicities} {n : ℕ} → Limits v n → Positive v
limits-positive l = record { p1 = l.least1; p2 = l.least2; p3 = l.least3; p4 = l.least4 }

-- ---- a repeat more or fewer
pub more-positive : (d : Direction) (v : Multiplicities) → Positive v → Positive (more d v)
more-positive (along a1) v p = omega arith
more-positive (along a2) v p = omega arith
more-positive (along a3) v p = omega arith
more-positive diagonal v p = omega arith

-- a direction with a repeat can lose one
pub fewer-positive : (d : Direction) (v : Multiplicities) → Positive v → HasRepeat d v → Positive (fewer d v)
fewer-positive (along a1) v p h = omega arith
fewer-positive (along a2) v p h = omega arith
fewer-positive (along a3) v p h = omega arith
fewer-positive diagonal v p h = omega arith

-- and has it again with one more
pub more-fewer : (d : Direction) (v : Multiplicities) → HasRepeat d v → more d (fewer d v) ≡ v
more-fewer (along a1) v h = ap (λ (n : ℕ). multiplicities n v.v2 v.v3 v.v4) (omega arith)
more-fewer (along a2) v h = ap (λ (n : ℕ). multiplicities v.v1 n v.v3 v.v4) (omega arith)
more-fewer (along a3) v h = ap (λ (n : ℕ). multiplicities v.v1 v.v2 n v.v4) (omega arith)
more-fewer diagonal v h = ap (λ (n : ℕ). multiplicities v.v1 v.v2 v.v3 n) (omega arith)

-- a repeat adds 1 to the degree
pub degree-more : (d : Direction) (v : Multiplicities) → Positive v → degree (more d v) ≡ suc (degree v)
degree-more (along a1) v p = omega arith
degree-more (along a2) v p = omega arith
degree-more (along a3) v p = omega arith
degree-more diagonal v p = omega arith

-- and 1 to the extent of each axis that it moves along
pub extent-more : (d : Direction) (v : Multiplicities) (b : Axis) → extent (more d v) b ≡ wider d (extent v) b
extent-more (along a1) v a1 = omega arith
extent-more (along a1) v a2 = omega arith
extent-more (along a1) v a3 = omega arith
extent-more (along a2) v a1 = omega arith
extent-more (along a2) v a2 = omega arith
extent-more (along a2) v a3 = omega arith
extent-more (along a3) v a1 = omega arith
extent-more (along a3) v a2 = omega arith
extent-more (along a3) v a3 = omega arith
extent-more diagonal v a1 = omega arith
extent-more diagonal v a2 = omega arith
extent-more diagonal v a3 = omega arith

-- the order of two repeats does not matter
more-comm : (d e : Direction) (v : Multiplicities) → more d (more e v) ≡ more e (more d v)
more-comm (along a1) (along a1) v = refl
more-comm (along a1) (along a2) v = refl
more-comm (along a1) (along a3) v = refl
more-comm (along a1) diagonal v = refl
more-comm (along a2) (along a1) v = refl
more-comm (along a2) (along a2) v = refl
more-comm (along a2) (along a3) v = refl
more-comm (along a2) diagonal v = refl
more-comm (along a3) (along a1) v = refl
more-comm (along a3) (along a2) v = refl
more-comm (along a3) (along a3) v = refl
more-comm (along a3) diagonal v = refl
more-comm diagonal (along a1) v = refl
more-comm diagonal (along a2) v = refl
more-comm diagonal (along a3) v = refl
more-comm diagonal diagonal v = refl

-- ---- of an order
-- each direction has at least the one it starts with
pub order-positive : (ds : List Direction) → Positive (multiplicities_of ds)
order-positive [] = omega arith
order-positive (d ∷ ds) = more-positive d (multiplicities_of ds) (order-positive ds)

-- an order of n repeats has the degree n + 1
pub order-degree : (ds : List Direction) → degree (multiplicities_of ds) ≡ 1 + length ds
order-degree [] = refl
order-degree (d ∷ ds) =
    omega (arith, degree-more d (multiplicities_of ds) (order-positive ds), order-degree ds)

-- the last direction's repeat counts like the first's
pub order-snoc : (ds : List Direction) (d : Direction)
    → multiplicities_of (ds ++ (d ∷ [])) ≡ more d (multiplicities_of ds)
order-snoc [] d = refl
order-snoc (e ∷ ds) d = ap (more e) (order-snoc ds d) ∙ more-comm e d (multiplicities_of ds)

-- ---- the extents that an order leads to
wider-comm : (d e : Direction) (E : Axis → ℕ) → wider d (wider e E) ≡ wider e (wider d E)
wider-comm d e E = fun_ext (λ b. omega arith)

extents-wider : (d : Direction) (ds : List Direction) (E : Axis → ℕ)
    → extents ds (wider d E) ≡ wider d (extents ds E)
extents-wider d [] E = refl
extents-wider d (e ∷ ds) E = ap (extents ds) (wider-comm e d E) ∙ extents-wider d ds (wider e E)

-- they are those of its multiplicities
pub order-extents : (ds : List Direction) → extents ds (λ b. 2) ≡ extent (multiplicities_of ds)
order-extents [] = fun_ext axis
  where
    axis : (b : Axis) → 2 ≡ extent (multiplicities 1 1 1 1) b
    axis a1 = refl
    axis a2 = refl
    axis a3 = refl
order-extents (d ∷ ds) =
    extents-wider d ds (λ b. 2)
    ∙ ap (wider d) (order-extents ds)
    ∙ sym (fun_ext (extent-more d (multiplicities_of ds)))

-- ---- an order's counts
multiplicity-more : (d e : Direction) (v : Multiplicities)
    → multiplicity d (more e v) ≡ cond (same_direction d e) (suc (multiplicity d v)) (multiplicity d v)
multiplicity-more (along a1) (along a1) v = refl
multiplicity-more (along a1) (along a2) v = refl
multiplicity-more (along a1) (along a3) v = refl
multiplicity-more (along a1) diagonal v = refl
multiplicity-more (along a2) (along a1) v = refl
multiplicity-more (along a2) (along a2) v = refl
multiplicity-more (along a2) (along a3) v = refl
multiplicity-more (along a2) diagonal v = refl
multiplicity-more (along a3) (along a1) v = refl
multiplicity-more (along a3) (along a2) v = refl
multiplicity-more (along a3) (along a3) v = refl
multiplicity-more (along a3) diagonal v = refl
multiplicity-more diagonal (along a1) v = refl
multiplicity-more diagonal (along a2) v = refl
multiplicity-more diagonal (along a3) v = refl
multiplicity-more diagonal diagonal v = refl

suc-cond : (t : Bool) (m n : ℕ) → cond t (suc m) (suc n) ≡ suc (cond t m n)
suc-cond true m n = refl
suc-cond false m n = refl

-- a direction's multiplicity is 1 more than its count
pub order-multiplicity : (d : Direction) (ds : List Direction)
    → multiplicity d (multiplicities_of ds) ≡ suc (count d ds)
order-multiplicity (along a1) [] = refl
order-multiplicity (along a2) [] = refl
order-multiplicity (along a3) [] = refl
order-multiplicity diagonal [] = refl
order-multiplicity d (e ∷ ds) =
    multiplicity-more d e (multiplicities_of ds)
    ∙ ap (λ (n : ℕ). cond (same_direction d e) (suc n) n) (order-multiplicity d ds)
    ∙ suc-cond (same_direction d e) (suc (count d ds)) (count d ds)

-- multiplicities that are equal in each direction are equal
pub multiplicities-ext : (v w : Multiplicities)
    → ((d : Direction) → multiplicity d v ≡ multiplicity d w) → v ≡ w
multiplicities-ext v w h =
    ap (λ (n : ℕ). multiplicities n v.v2 v.v3 v.v4) (h (along a1))
    ∙ ap (λ (n : ℕ). multiplicities w.v1 n v.v3 v.v4) (h (along a2))
    ∙ ap (λ (n : ℕ). multiplicities w.v1 w.v2 n v.v4) (h (along a3))
    ∙ ap (λ (n : ℕ). multiplicities w.v1 w.v2 w.v3 n) (h diagonal)

-- equal counts, equal multiplicities
pub counts-decide : (ds es : List Direction) → ((d : Direction) → count d ds ≡ count d es)
    → multiplicities_of ds ≡ multiplicities_of es
counts-decide ds es h =
    multiplicities-ext (multiplicities_of ds) (multiplicities_of es)
    (λ d. order-multiplicity d ds ∙ ap suc (h d) ∙ sym (order-multiplicity d es))

-- What an order builds depends only on how often it names each direction: it is the defined net.
use mathlib.Core.Bool.{Bool, cond, false, true}
use mathlib.Core.List.{List, [], ◌∷◌}
use mathlib.Core.Path.{◌∙◌, ◌≡◌, ap, refl, sym}
use Prim.Native.Nat.{◌+◌, ◌-◌, ◌≤◌, suc, zero, ℕ}
use native.Mathlib.Omega.{arith}
use lib.ListN.{length}
use Rattle.spline.proofs.Commute.{commute}
use Rattle.spline.proofs.Low.{ZeroLow, simple-low, stepped-low}
use Rattle.spline.proofs.Multiplicities.{Positive, fewer-positive, more-fewer}
use Rattle.spline.proofs.Multiplicities.{multiplicities-ext, order-degree, order-multiplicity}
use Rattle.spline.proofs.Multiplicities.{order-positive}
use Rattle.spline.specs.Build.{built, simple, stepped}
use Rattle.spline.specs.Defined.{defined, defined_order, repeats}
use Rattle.spline.specs.Multiplicities.{HasRepeat, Multiplicities, count, degree, fewer, more}
use Rattle.spline.specs.Multiplicities.{multiplicities_of, multiplicity, same_direction}
use Rattle.spline.specs.Place.{Direction, Net, a1, a2, a3, along, diagonal}

-- ---- sorting an order into the defined one
-- a direction goes past a run of another
past : (d e : Direction) (n : ℕ) (ds : List Direction) (g : ℕ) (G : Net) → ZeroLow G
    → built (d ∷ repeats n e ds) g G ≡ built (repeats n e (d ∷ ds)) g G
unfolding built
past d e zero ds g G v = refl
past d e (suc n) ds g G v =
    ap (built (repeats n e ds) (suc (suc g))) (commute e d g G v)
    ∙ past d e n ds (suc g) (stepped e g G) (stepped-low e g G v)

-- two orders that build the same from any net
abbrev Alike : List Direction → List Direction → Type 0
Alike ds es = (g : ℕ) (G : Net) → ZeroLow G → built ds g G ≡ built es g G

-- a run at the front does not mind what is built behind it
behind : (e : Direction) (n : ℕ) (ds es : List Direction) → Alike ds es
    → Alike (repeats n e ds) (repeats n e es)
unfolding built
behind e zero ds es h g G v = h g G v
behind e (suc n) ds es h g G v = behind e n ds es h (suc g) (stepped e g G) (stepped-low e g G v)

-- a direction goes past a run and takes its place behind it
past-run : (d e : Direction) (n : ℕ) (ds es : List Direction) → Alike (d ∷ ds) es
    → Alike (d ∷ repeats n e ds) (repeats n e es)
past-run d e n ds es h g G v = past d e n ds g G v ∙ behind e n (d ∷ ds) es h g G v

suc-less : (n : ℕ) → 1 ≤ n → suc (n - 1) ≡ suc n - 1
suc-less n h = omega arith

-- one repeat more of a run's own direction
own-run : (d : Direction) (n : ℕ) (ds : List Direction) → 1 ≤ n
    → Alike (d ∷ repeats (n - 1) d ds) (repeats (suc n - 1) d ds)
own-run d n ds h g G v = ap (λ (k : ℕ). built (repeats k d ds) g G) (suc-less n h)

module _ (v : Multiplicities) (p : Positive v) where
  abbrev fours : List Direction
  fours = repeats (v.v4 - 1) diagonal []

  abbrev twos : List Direction
  twos = repeats (v.v2 - 1) (along a2) fours

  abbrev threes : List Direction
  threes = repeats (v.v3 - 1) (along a3) twos

  -- a direction at the front of the defined order goes to its own run
  pub insert : (d : Direction) → Alike (d ∷ defined_order v) (defined_order (more d v))
  unfolding defined_order
  insert (along a1) = own-run (along a1) v.v1 threes p.p1
  insert (along a3) =
      past-run (along a3) (along a1) (v.v1 - 1) threes _
      (own-run (along a3) v.v3 twos p.p3)
  insert (along a2) =
      past-run (along a2) (along a1) (v.v1 - 1) threes _
      (past-run (along a2) (along a3) (v.v3 - 1) twos _ (own-run (along a2) v.v2 fours p.p2))
  insert diagonal =
      past-run diagonal (along a1) (v.v1 - 1) threes _
      (past-run diagonal (along a3) (v.v3 - 1) twos _
      (past-run diagonal (along a2) (v.v2 - 1) fours _ (own-run diagonal v.v4 [] p.p4)))

sorts : (ds : List Direction) → Alike ds (defined_order (multiplicities_of ds))
unfolding built defined_order
sorts [] g G v = refl
sorts (d ∷ ds) g G v =
    sorts ds (suc g) (stepped d g G) (stepped-low d g G v)
    ∙ insert (multiplicities_of ds) (order-positive ds) d g G v

-- an order builds the defined net of its multiplicities
pub order-defined : (ds : List Direction) → built ds 1 simple ≡ defined (multiplicities_of ds)
unfolding defined
order-defined ds = sorts ds 1 simple simple-low

-- ---- the multiplicities of the defined order
cond-none : (t : Bool) (c : ℕ) → c ≡ cond t (0 + c) c
cond-none true c = omega arith
cond-none false c = refl

cond-next : (t : Bool) (n c : ℕ)
    → cond t (suc (cond t (n + c) c)) (cond t (n + c) c) ≡ cond t (suc n + c) c
cond-next true n c = omega arith
cond-next false n c = refl

count-repeats : (d e : Direction) (n : ℕ) (ds : List Direction)
    → count d (repeats n e ds) ≡ cond (same_direction d e) (n + count d ds) (count d ds)
count-repeats d e zero ds = cond-none (same_direction d e) (count d ds)
count-repeats d e (suc n) ds =
    ap (λ (c : ℕ). cond (same_direction d e) (suc c) c) (count-repeats d e n ds)
    ∙ cond-next (same_direction d e) n (count d ds)

-- they are those that it is made for
pub order-of-defined : (v : Multiplicities) → Positive v → multiplicities_of (defined_order v) ≡ v
unfolding defined_order
order-of-defined v p = multiplicities-ext (multiplicities_of (defined_order v)) v at
  where
    -- a run of n times e before ds adds n to the count of e
    Run : Direction → Direction → ℕ → List Direction → Type 0
    Run d e n ds = count d (repeats n e ds) ≡ cond (same_direction d e) (n + count d ds) (count d ds)

    runs : (d : Direction)
        → Run d (along a1) (v.v1 - 1) (threes v p) × Run d (along a3) (v.v3 - 1) (twos v p)
        × Run d (along a2) (v.v2 - 1) (fours v p) × Run d diagonal (v.v4 - 1) []
    runs d = (
      count-repeats d (along a1) (v.v1 - 1) (threes v p),
      count-repeats d (along a3) (v.v3 - 1) (twos v p),
      count-repeats d (along a2) (v.v2 - 1) (fours v p),
      count-repeats d diagonal (v.v4 - 1) [],
    )

    at : (d : Direction) → multiplicity d (multiplicities_of (defined_order v)) ≡ multiplicity d v
    at (along a1) = omega (arith, order-multiplicity (along a1) (defined_order v), runs (along a1))
    at (along a2) = omega (arith, order-multiplicity (along a2) (defined_order v), runs (along a2))
    at (along a3) = omega (arith, order-multiplicity (along a3) (defined_order v), runs (along a3))
    at diagonal = omega (arith, order-multiplicity diagonal (defined_order v), runs diagonal)

-- ---- a repeat more, and a repeat fewer
-- the first direction may as well be taken last
last : (d : Direction) (ds : List Direction) (g : ℕ) (G : Net) → ZeroLow G
    → built (d ∷ ds) g G ≡ stepped d (g + length ds) (built ds g G)
unfolding built
last d [] g G v = let e : g ≡ g + 0 = omega arith in ap (λ (m : ℕ). stepped d m G) e
last d (x ∷ ds) g G v =
    let e : suc g + length ds ≡ g + suc (length ds) = omega arith in
    ap (built ds (suc (suc g))) (commute x d g G v)
    ∙ last d ds (suc g) (stepped x g G) (stepped-low x g G v)
    ∙ ap (λ (m : ℕ). stepped d m (built ds (suc g) (stepped x g G))) e

-- the defined net with one repeat more is the step of the defined net
pub defined_more : (d : Direction) (v : Multiplicities) → Positive v
    → defined (more d v) ≡ stepped d (degree v) (defined v)
unfolding defined
defined_more d v p =
    sym (insert v p d 1 simple simple-low)
    ∙ last d (defined_order v) 1 simple simple-low
    ∙ ap (λ (m : ℕ). stepped d m (defined v))
    (sym (order-degree (defined_order v)) ∙ ap degree (order-of-defined v p))

-- for each direction with a repeat, the defined net is the step of the defined net with one repeat fewer
pub defined-fewer : (d : Direction) (v : Multiplicities) → Positive v → HasRepeat d v
    → defined v ≡ stepped d (degree (fewer d v)) (defined (fewer d v))
defined-fewer d v p h =
    ap defined (sym (more-fewer d v h))
    ∙ defined_more d (fewer d v) (fewer-positive d v p h)

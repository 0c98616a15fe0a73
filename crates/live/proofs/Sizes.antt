-- Where m!×D^m is at most 2^37, all sums of blended numbers times weights are within 2^53.
use mathlib.Core.Path.{◌∙◌, ◌≡◌, ap, sym}
use Prim.Native.Nat.{◌*◌, ◌-◌, ◌<◌, ◌^◌, ◌≤◌, ℕ}
use native.Mathlib.Nat.{le_trans, pow-zero}
use native.Mathlib.Omega.{arith}
use lib.Ieee.{Float}
use lib.IntN.{nat_abs, pos, ℤ}
use mathlib.Core.List.{List}
use Rattle.sums.proofs.Coefficient.{binomial-choose, choose-zero, factorial-nine, factorial-pos}
use Rattle.sums.proofs.Coefficient.{multinomial-binomial}
use Rattle.sums.proofs.Simplex.{tetrahedron, triangle}
use Rattle.sums.proofs.SumZ.{sum_z-pos}
use Rattle.sums.specs.Coefficient.{binomial, factorial}
use Rattle.sums.specs.Simplex.{bernstein}
use Rattle.divisor_checks.specs.Divisor.{live_limit, scale}
use Rattle.axis_order.specs.Weights.{weight_sum}
use Rattle.axis_order.specs.declared.Placing.{Placing}
use Rattle.tetrahedron.specs.LocalPlaces.{local_places}
use Rattle.floats.proofs.Totals.{Sum, Summable}
use Rattle.floats.specs.Floats.{exact, float, float_at}
use Rattle.floats.proofs.FloatPowers.{powers-float}
use Rattle.floats.specs.Powers.{float_powers}
use Rattle.answers.specs.Bernstein.{term_weight}
use Rattle.parts.proofs.Weights.{weight-at, weights-total, powers-within}
use Rattle.parts.specs.Parts.{BlendedSizes, first_parts, parts_to}
use Rattle.parts.specs.Weights.{Scaled, weight_at}
use Rattle.live.specs.Inner.Floats.{FloatPowers}

-- ---- the first local place

one : (n : ℕ) → binomial n 0 ≡ 1
one n = binomial-choose n 0 (omega arith) ∙ choose-zero n

-- it has the weight L0^m
pub first-weight : (m : ℕ) (q : Placing) → q.l0 ^ m ≡ weight_at m q 0
unfolding tetrahedron triangle bernstein
first-weight m q =
    let e : m - 0 ≡ m = omega arith in
    let is : term_weight m q (m - 0) (0 - 0) (0 - 0) 0 ≡ q.l0 ^ m
    = rw (
      multinomial-binomial m 0 0 0 (omega arith) (omega arith) (omega arith),
      one m,
      one 0,
      pow-zero q.l1,
      pow-zero q.l2,
      pow-zero q.l3,
      e,
    ) (omega arith) in
    sym (weight-at m q 0 0 0 (omega arith) (omega arith) (omega arith) ∙ is)

-- ---- powers

-- a table of the powers of a weight has their floats
pub powers-tabled : {m : ℕ} {q : Placing} {r : List Float} → Scaled m q → (l : ℕ) → l ≤ weight_sum q
    → r ≡ float_powers l m → FloatPowers m l (float_at r)
powers-tabled {m} {q} scaled l h e i k =
    let w = powers-within m q scaled l h in
    ap (λ (t : List Float). float_at t i) e
    ∙ powers-float l m w.0 (λ j n. omega (arith, w.1 j n)) i k

-- ---- sizes

-- what no blended number exceeds
abbrev pub most : ℕ → ℕ
most m = 65535 * factorial m

module _ {m : ℕ} {q : Placing} {shift : ℕ → ℤ} {spread : ℕ → ℕ} (scaled : Scaled m q)
    (live : scale m (weight_sum q) ≤ live_limit) (sized : BlendedSizes m shift spread) where
  few : most m ≤ exact
  few = omega (arith, factorial-nine m scaled.degree)

  -- numbers of that size times the weights
  summable : (f : ℕ → ℤ) → ((t : ℕ) → t < local_places m → nat_abs (f t) ≤ most m)
      → Summable (most m) (local_places m) f (weight_at m q)
  summable f small = record {
    some = omega (arith, factorial-pos m);
    few = few;
    sized = small;
    within = omega (arith, live, ap (λ (k : ℕ). most m * k) (weights-total m q scaled.degree));
  }

  shift-size : (t : ℕ) → t < local_places m → nat_abs (shift t) ≤ most m
  shift-size t h = omega (arith, sized.of_shifts t h)

  pub shifts : Summable (most m) (local_places m) shift (weight_at m q)
  shifts = summable shift shift-size

  pub spreads : Summable (most m) (local_places m) (λ t. pos (spread t)) (weight_at m q)
  spreads = summable (λ t. pos (spread t)) sized.of_spreads

  -- the blended numbers themselves
  pub shift-exact : (t : ℕ) → t < local_places m → nat_abs (shift t) ≤ exact
  shift-exact t h = le_trans (shift-size t h) few

  pub spread-exact : (t : ℕ) → t < local_places m → spread t ≤ exact
  spread-exact t h = le_trans (sized.of_spreads t h) few

  -- the whole sums are the floats of N and U
  pub numerator-float : {r : Float} → Sum (most m) shift (weight_at m q) r (local_places m)
      → r ≡ float (parts_to m q shift spread).numerator
  unfolding first_parts
  numerator-float h = h.is

  pub uncertainty-float : {r : Float} → Sum (most m) (λ t. pos (spread t)) (weight_at m q) r (local_places m)
      → r ≡ float (pos (parts_to m q shift spread).uncertainty)
  unfolding first_parts
  uncertainty-float h = h.is ∙ ap float (sum_z-pos (local_places m) (λ t. spread t * weight_at m q t))

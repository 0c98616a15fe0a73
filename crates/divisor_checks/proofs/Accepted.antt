-- A divisor that passed its checks.
use mathlib.Core.Bool.{◌||◌, false}
use mathlib.Core.Path.{◌≡◌, refl}
use Prim.Native.Nat.{◌≤◌, ℕ}
use native.Mathlib.Nat.{pos_of_ne-zero}
use native.Mathlib.Omega.{arith}
use borrow.Author.Tests.{eqb-false, le-ltb, ltb-false, ne_eqb}
use lib.Dec.{eqb, ltb}
use Rattle.spline.specs.Multiplicities.{Multiplicities, degree}
use Rattle.checks.proofs.Checks.{if-passed, if-stopped, or-false}
use Rattle.checks.specs.declared.Refusal.{Refusal}
use Rattle.divisor_checks.specs.Divisor.{divisor_checks, limit, live_limit, live_scale_check, scale}
use Rattle.checks.specs.Checks.{no_refusal, refuse_if}
use Rattle.std.specs.Prelude.{Err}
use Rattle.checks.specs.declared.Refusal.TheVariants.{BadDivisor, LargeLiveScale, LargeScale}

pub record InRange (D : ℕ) : Type 0 where
  pub some : 1 ≤ D
  pub few : D ≤ 4096
  pub is : (eqb D 0 || ltb 4096 D) ≡ false

-- a divisor that passes 10 is in its range
pub in-range : (D : ℕ) → refuse_if BadDivisor (eqb D 0 || ltb 4096 D) no_refusal ≡ no_refusal → InRange D
in-range D h =
    let a = if-passed BadDivisor _ _ h in
    let d = or-false _ _ a.0 in
    record { some = pos_of_ne-zero (eqb-false _ _ d.0); few = ltb-false _ _ d.1; is = a.0 }

-- one that does not is refused whatever the net
pub out_of_range : (v : Multiplicities) (D : ℕ) {r : Refusal}
    → refuse_if BadDivisor (eqb D 0 || ltb 4096 D) no_refusal ≡ Err r → divisor_checks v D ≡ Err r
unfolding divisor_checks
out_of_range v D {r} h =
    if-stopped BadDivisor (eqb D 0 || ltb 4096 D) (refuse_if LargeScale (ltb limit (scale (degree v) D)) no_refusal) r h

pub record DivisorAccepted (v : Multiplicities) (D : ℕ) : Type 0 where
  pub some : 1 ≤ D
  pub few : D ≤ 4096
  pub scaled : scale (degree v) D ≤ limit

-- a divisor that passes 10 and 11 is within limits
pub divisor-accepted : (v : Multiplicities) (D : ℕ) → divisor_checks v D ≡ no_refusal → DivisorAccepted v D
unfolding divisor_checks
divisor-accepted v D h =
    let a = if-passed BadDivisor (eqb D 0 || ltb 4096 D) _ h in
    let b = if-passed LargeScale _ _ a.1 in
    let p : refuse_if BadDivisor (eqb D 0 || ltb 4096 D) no_refusal ≡ no_refusal = rw a.0 refl in
    let r = in-range D p in
    record { some = r.some; few = r.few; scaled = ltb-false _ _ b.0 }

-- and the other way round
pub divisor-passes : (v : Multiplicities) (D : ℕ) → DivisorAccepted v D → divisor_checks v D ≡ no_refusal
unfolding divisor_checks
divisor-passes v D a =
    simp (
      ne_eqb D 0 (λ e. omega (arith, a.some)),
      le-ltb 4096 D a.few,
      le-ltb limit (scale (degree v) D) a.scaled,
    )

-- one that passes 15 is within the limit of a live call
pub live-accepted : (v : Multiplicities) (D : ℕ) → live_scale_check v D ≡ no_refusal
    → scale (degree v) D ≤ live_limit
unfolding live_scale_check
live-accepted v D h = ltb-false _ _ (if-passed LargeLiveScale _ _ h).0

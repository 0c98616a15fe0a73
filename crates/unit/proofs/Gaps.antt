-- Gaps with and without an uncertainty.
use mathlib.Core.Bool.{Bool, ◌&&◌, and-eq-true_iff, false, not, true}
use mathlib.Core.Logic.{◌↔◌, ◌≢◌}
use mathlib.Core.Path.{◌≡◌, ap, refl}
use Prim.Native.Nat.{◌<◌, ℕ}
use native.Mathlib.Omega.{arith}
use borrow.Author.Tests.{eq-eqb, eqb-false, eqb-true, ne_eqb, not-true}
use lib.Dec.{eqb}
use lib.IntN.{negsuc, pos, ℤ}
use Rattle.sums.proofs.Search.{false-true}
use Rattle.unit.specs.Gaps.{is_gap, uncertain_gap}

certain-by : (gap : Bool) (u : ℕ) → (gap ≡ true → u ≡ 0) → (gap && not (eqb u 0)) ≡ false
certain-by true u h = simp (eq-eqb u 0 (h refl))
certain-by false u h = refl

-- 16 does not speak of an entry that has no uncertainty if it is a gap
pub certain : (correction : ℤ) (u : ℕ) → (is_gap correction ≡ true → u ≡ 0) → uncertain_gap correction u ≡ false
certain correction u h = certain-by (is_gap correction) u h

-- it speaks of a gap with an uncertainty
pub uncertain : (correction : ℤ) (u : ℕ) → is_gap correction ≡ true → 0 < u → uncertain_gap correction u ≡ true
uncertain correction u h some = rw h (ap not (ne_eqb u 0 (λ e. omega arith)))

-- what 16 speaks of is a correction of −32768 with an uncertainty
pub uncertain-gap : (correction : ℤ) (u : ℕ)
    → (uncertain_gap correction u ≡ true) ↔ ((correction ≡ negsuc 32767) × (0 < u))
uncertain-gap correction u = (to correction, back)
  where
    to : (c : ℤ) → uncertain_gap c u ≡ true → (c ≡ negsuc 32767) × (0 < u)
    to (pos k) h = absurd (false-true h)
    to (negsuc k) h =
        let b = (and-eq-true_iff (eqb k 32767) (not (eqb u 0))).0 h in
        let some : u ≢ 0 = eqb-false u 0 (not-true _ b.1) in
        (ap negsuc (eqb-true k 32767 b.0), omega arith)

    back : (correction ≡ negsuc 32767) × (0 < u) → uncertain_gap correction u ≡ true
    back h = uncertain correction u (ap is_gap h.0) h.1

-- Sums over the window as a loop makes them, and their sizes.
use mathlib.Core.Path.{◌≡◌, refl}
use Prim.Native.Nat.{◌*◌, ◌+◌, ◌<◌, ◌^◌, ◌≤◌, ℕ}
use native.Mathlib.Nat.{add_assoc, add-zero, mul-le-mul, mul-le-mul_left}
use native.Mathlib.Omega.{arith}
use lib.IntN.{+ℤ_assoc, +ℤ_idr, nat_abs, pos, ℤ}
use mir.Syntax.{w16}
use mir.Val.{SFits}
use Rattle.sums.proofs.MachineSizes.{fits-size}
use Rattle.sums.proofs.Signed.{abs-add, abs-mul}
use Rattle.sums.proofs.Sum.{sum-next, sum-zero}
use Rattle.sums.proofs.SumZ.{sum_z-next, sum_z-zero}
use Rattle.blending.specs.Inner.Sums.{Bounded, Small, Sums, add_sums, entry_sums, no_sums, sums_to}

-- before the first turn the sums are those of nothing
pub sums_none : (f : ℕ → Sums) → no_sums ≡ sums_to 0 f
unfolding sums_to
sums_none f =
    rw (
      sum-zero (λ i. (f i).shares),
      sum_z-zero (λ i. (f i).corrections),
      sum-zero (λ i. (f i).uncertainties),
    ) refl

-- a turn adds its term
pub sums_next : (f : ℕ → Sums) (i : ℕ) {t s : Sums} → t ≡ sums_to i f → s ≡ f i
    → add_sums t s ≡ sums_to (i + 1) f
unfolding sums_to
sums_next f i e d =
    rw (
      e,
      d,
      sum-next i (λ j. (f j).shares),
      sum_z-next i (λ j. (f j).corrections),
      sum-next i (λ j. (f j).uncertainties),
    ) refl

-- sums of nothing add nothing
pub add_none : (from : Sums) → from ≡ add_sums from no_sums
add_none from = rw (add-zero from.shares, +ℤ_idr from.corrections, add-zero from.uncertainties) refl

-- two additions in a row are one
pub add-assoc-sums : (a b c : Sums) → add_sums (add_sums a b) c ≡ add_sums a (add_sums b c)
add-assoc-sums a b c =
    rw (
      add_assoc a.shares b.shares c.shares,
      +ℤ_assoc a.corrections b.corrections c.corrections,
      add_assoc a.uncertainties b.uncertainties c.uncertainties,
    ) refl

-- ---- sizes

-- sums of nothing are those of no entry
pub small-none : Small 0 no_sums
small-none = record {
  shares_small = omega arith;
  corrections_small = omega arith;
  uncertainties_small = omega arith;
}

-- sums of two sets of entries are those of both
pub small-add : {a b : ℕ} {s t : Sums} (n : ℕ) → Small a s → Small b t → a + b ≤ n → Small n (add_sums s t)
small-add {s = s} {t = t} n h k l =
    let z = abs-add s.corrections t.corrections in
    record { shares_small = omega arith; corrections_small = omega arith; uncertainties_small = omega arith }

-- those of some entries are no larger than those of more
pub small-more : {a : ℕ} {s : Sums} (n : ℕ) → Small a s → a ≤ n → Small n s
small-more n h l = record {
  shares_small = omega arith;
  corrections_small = omega arith;
  uncertainties_small = omega arith;
}

-- ---- one entry

module _ (share : ℕ) (correction : ℤ) (uncertainty : ℕ) (hs : share < 2 ^ 32) (hc : SFits w16 correction)
    (hu : uncertainty < 2 ^ 16) where
  -- a correction times a share is small
  pub entry-correction : nat_abs correction * share ≤ 140737488355328
  entry-correction = let s : share ≤ 4294967296 = omega arith in mul-le-mul (fits-size w16 correction hc) s

  -- so is an uncertainty times a share
  pub entry-uncertainty : share * uncertainty ≤ 281474976710656
  entry-uncertainty =
      let s : share ≤ 4294967296 = omega arith in
      let u : uncertainty ≤ 65536 = omega arith in
      mul-le-mul s u

  -- so the sums of one entry are those of at most one
  pub small-entry : Small 1 (entry_sums share correction uncertainty)
  small-entry =
      let c = entry-correction in
      let u = entry-uncertainty in
      let e = abs-mul (pos share) correction in
      record {
        shares_small = omega arith;
        corrections_small = omega arith;
        uncertainties_small = omega arith;
      }

-- a correction that is no gap bounds the sums of its entry
pub bounded-entry : (share : ℕ) (correction : ℤ) (uncertainty : ℕ) → nat_abs correction ≤ 32767
    → uncertainty < 2 ^ 16 → Bounded (entry_sums share correction uncertainty)
bounded-entry share correction uncertainty hc hu =
    let e = abs-mul (pos share) correction in
    let c = mul-le-mul_left share hc in
    let u : share * uncertainty ≤ share * 65535 = mul-le-mul_left share (omega arith) in
    record { of_corrections = omega arith; of_uncertainties = omega arith }

-- sums of nothing are bounded
pub bounded-none : Bounded no_sums
bounded-none = record { of_corrections = omega arith; of_uncertainties = omega arith }

-- bounded sums add up to bounded ones
pub bounded-add : (s t : Sums) → Bounded s → Bounded t → Bounded (add_sums s t)
bounded-add s t h k =
    let z = abs-add s.corrections t.corrections in
    record { of_corrections = omega arith; of_uncertainties = omega arith }

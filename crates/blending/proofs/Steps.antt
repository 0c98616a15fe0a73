-- Steps from sums to sums: one share stored, none, one stretch of places after another.
use mathlib.Core.List.{List}
use mathlib.Core.Logic.{◌≢◌, ◌⊎◌, inl, inr, ⊎_elim}
use mathlib.Core.Path.{◌∙◌, ◌≡◌, refl}
use Prim.Native.Nat.{◌+◌, ◌<◌, ◌≤◌, suc, zero, ℕ}
use native.Mathlib.Nat.{add-zero, zero-mul}
use native.Mathlib.Omega.{arith}
use lib.IntN.{+ℤ_idr, pos, zero-*ℤ, ℤ}
use lib.ListN.{length, set}
use lib.Seq.{get_or-set_other, get_or-set_same}
use Rattle.blending.specs.Inner.Sums.{Room, Sums, add_sums, entry_sums, sums, sums_in}
use Rattle.blending.specs.Inner.Window.{AddedIn}

-- three stores at t add to the sums there and to no others
pub stored : (shares : List ℕ) (shifts : List ℤ) (spreads : List ℕ) (t a c : ℕ) (b : ℤ) (v : Sums)
    → t < 220 → Room shares shifts spreads → sums a b c ≡ add_sums (sums_in shares shifts spreads t) v
    → AddedIn t (t + 1) (λ i. v) (sums_in shares shifts spreads)
    (sums_in (set shares t a) (set shifts t b) (set spreads t c))
stored shares shifts spreads t a c b v h r e = record {
  inside = λ i l m.
      let at : i ≡ t = omega arith in
      rw (
        at,
        get_or-set_same shares t a 0 (omega (arith, r.for_shares)),
        get_or-set_same shifts t b (pos 0) (omega (arith, r.for_corrections)),
        get_or-set_same spreads t c 0 (omega (arith, r.for_uncertainties)),
      ) e;
  before = λ i l. others i (λ k. omega arith);
  after = λ i l. others i (λ k. omega arith);
}
  where
    others : (i : ℕ) → i ≢ t
        → sums_in (set shares t a) (set shifts t b) (set spreads t c) i ≡ sums_in shares shifts spreads i
    others i n =
        rw (
          get_or-set_other shares t i a 0 n,
          get_or-set_other shifts t i b (pos 0) n,
          get_or-set_other spreads t i c 0 n,
        ) refl

-- a share of 0 adds nothing
add_nothing : (s : Sums) (correction : ℤ) (uncertainty : ℕ)
    → s ≡ add_sums s (entry_sums 0 correction uncertainty)
add_nothing s correction uncertainty =
    rw (
      zero-*ℤ correction,
      zero-mul uncertainty,
      add-zero s.shares,
      +ℤ_idr s.corrections,
      add-zero s.uncertainties,
    ) refl

-- shares of 0 on a stretch of places add nothing
pub added-nothing : (a b : ℕ) (share : ℕ → ℕ) (correction : ℤ) (uncertainty : ℕ) (s : ℕ → Sums)
    → ((i : ℕ) → a ≤ i → i < b → share i ≡ 0)
    → AddedIn a b (λ i. entry_sums (share i) correction uncertainty) s s
added-nothing a b share correction uncertainty s zero-at = record {
  inside = λ i l m. rw (zero-at i l m) (add_nothing (s i) correction uncertainty);
  before = λ i l. refl;
  after = λ i l. refl;
}

-- ---- additions in a row

-- a number is below another or not
below_or_not : (i n : ℕ) → (i < n) ⊎ (n ≤ i)
below_or_not i zero = inr (omega arith)
below_or_not zero (suc n) = inl (omega arith)
below_or_not (suc i) (suc n) = ⊎_elim (λ l. inl (omega arith)) (λ l. inr (omega arith)) (below_or_not i n)

module _ (v : ℕ → Sums) where
  -- nothing is added to no places
  pub added_none : (a b : ℕ) (s : ℕ → Sums) → b ≤ a → AddedIn a b v s s
  added_none a b s h = record {
    inside = λ i l m. absurd (omega arith);
    before = λ i l. refl;
    after = λ i l. refl;
  }

  -- one stretch and the next are one
  pub added-on : (a b c : ℕ) (s0 s1 s2 : ℕ → Sums) → a ≤ b → b ≤ c → AddedIn a b v s0 s1 → AddedIn b c v s1 s2
      → AddedIn a c v s0 s2
  added-on a b c s0 s1 s2 ab bc h k = record {
    inside = λ i l m.
        ⊎_elim
        (λ (n : i < b). k.before i n ∙ h.inside i l n)
        (λ (n : b ≤ i). rw (h.after i n) at (k.inside i n m))
        (below_or_not i b);
    before = λ i l. k.before i (omega arith) ∙ h.before i l;
    after = λ i l. k.after i l ∙ h.after i (omega arith);
  }

  -- only what is added inside the stretch counts
  pub added-cong : (a b : ℕ) (w s0 s1 : ℕ → Sums) → ((i : ℕ) → a ≤ i → i < b → w i ≡ v i)
      → AddedIn a b w s0 s1 → AddedIn a b v s0 s1
  added-cong a b w s0 s1 e h = record {
    inside = λ i l m. rw (e i l m) at (h.inside i l m);
    before = h.before;
    after = h.after;
  }

-- ---- lengths

-- as long as they were
pub record Kept (shares₀ : List ℕ) (shifts₀ : List ℤ) (spreads₀ shares : List ℕ) (shifts : List ℤ)
    (spreads : List ℕ) : Type 0 where
  pub of_shares : length shares ≡ length shares₀
  pub of_shifts : length shifts ≡ length shifts₀
  pub of_spreads : length spreads ≡ length spreads₀

-- so there is room where there was
pub kept-room : {shares₀ shares spreads₀ spreads : List ℕ} {shifts₀ shifts : List ℤ}
    → Room shares₀ shifts₀ spreads₀ → Kept shares₀ shifts₀ spreads₀ shares shifts spreads
    → Room shares shifts spreads
kept-room r k = record {
  for_shares = omega (arith, r.for_shares, k.of_shares);
  for_corrections = omega (arith, r.for_corrections, k.of_shifts);
  for_uncertainties = omega (arith, r.for_uncertainties, k.of_spreads);
}

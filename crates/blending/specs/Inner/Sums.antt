-- Sums over some of a window's entries: the shares, and the shares times corrections and uncertainties.
use Rattle.std.specs.Prelude.{List, ◌*◌, ◌+◌, ◌≤◌, ℕ, ◌*ℤ◌, ◌+ℤ◌, nat_abs, pos, ℤ, length}
use Rattle.sums.specs.Fill.{number_at, signed_at}
use Rattle.sums.specs.Sum.{sum_to, sum_z}

pub record Sums : Type 0 where
  pub shares : ℕ
  pub corrections : ℤ
  pub uncertainties : ℕ

abbrev pub sums : ℕ → ℤ → ℕ → Sums
sums s c u = record { shares = s; corrections = c; uncertainties = u }

abbrev pub no_sums : Sums
no_sums = sums 0 (pos 0) 0

-- those of one entry
abbrev pub entry_sums : ℕ → ℤ → ℕ → Sums
entry_sums share correction uncertainty = sums share (pos share *ℤ correction) (share * uncertainty)

abbrev pub add_sums : Sums → Sums → Sums
add_sums s t =
    sums (s.shares + t.shares) (s.corrections +ℤ t.corrections) (s.uncertainties + t.uncertainties)

-- f 0 + .. + f (n − 1)
unfoldable pub sums_to : ℕ → (ℕ → Sums) → Sums
sums_to n f =
    sums (sum_to n (λ i. (f i).shares)) (sum_z n (λ i. (f i).corrections))
    (sum_to n (λ i. (f i).uncertainties))

-- no larger than those of n entries, whatever a lent slice holds
pub record Small (n : ℕ) (s : Sums) : Type 0 where
  pub shares_small : s.shares ≤ n * 4294967296
  pub corrections_small : nat_abs s.corrections ≤ n * 140737488355328
  pub uncertainties_small : s.uncertainties ≤ n * 281474976710656

-- no larger than the largest correction and uncertainty make them
pub record Bounded (s : Sums) : Type 0 where
  pub of_corrections : nat_abs s.corrections ≤ 32767 * s.shares
  pub of_uncertainties : s.uncertainties ≤ 65535 * s.shares

-- the sums at the local place with number t, from the arrays that hold them
abbrev pub sums_in : List ℕ → List ℤ → List ℕ → ℕ → Sums
sums_in shares corrections uncertainties t =
    sums (number_at shares t) (signed_at corrections t) (number_at uncertainties t)

-- each of these arrays has a place for every local place
pub record Room (shares : List ℕ) (corrections : List ℤ) (uncertainties : List ℕ) : Type 0 where
  pub for_shares : 220 ≤ length shares
  pub for_corrections : 220 ≤ length corrections
  pub for_uncertainties : 220 ≤ length uncertainties

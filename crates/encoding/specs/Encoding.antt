-- The field file of given sizes, origin and entries, the way back from Section 8.2.
use Rattle.std.specs.Prelude.{true, List, [], ◌++◌, ◌∷◌, map, ◌≡◌, ◌%◌, ◌*◌, ◌-◌, ◌/◌, ◌<◌, ◌≤◌, suc, ℕ}
use Rattle.std.specs.Prelude.{negsuc, pos, ℤ, get_or, length}
use Rattle.std.specs.Int.Signed.{mag}
use Rattle.allowed.specs.Allowed.{sizes_allowed}
use Rattle.unit.specs.Gaps.{is_gap}

-- Section 8.2: two bytes for each 16-bit number, the low one first
unfoldable pub little_endian : List ℕ → List ℕ
little_endian [] = []
little_endian (w ∷ ws) = w % 256 ∷ w / 256 ∷ little_endian ws

-- Section 8.2: the 16 bits of a signed number in two's complement; `negsuc k` is −(k + 1)
unfoldable pub bits : ℤ → ℕ
bits (pos k) = k
bits (negsuc k) = 65536 - suc k

-- Section 8.2: the whole file, sizes, origin, corrections, uncertainties
unfoldable pub encoding : ℕ → ℕ → ℕ → ℤ → ℤ → ℤ → List ℤ → List ℕ → List ℕ
encoding n1 n2 n3 o1 o2 o3 corrections uncertainties =
    little_endian (n1 ∷ n2 ∷ n3 ∷ bits o1 ∷ bits o2 ∷ bits o3 ∷ map bits corrections ++ uncertainties)

-- Sections 4.3, 8.1 to 8.3: allowed sizes, an origin of 16 bits (`mag` of −(k + 1) is k), n entries in each
-- list, corrections of 16 bits, uncertainties that 8 does not refuse, and none at a gap
pub record WithinLimits (n1 n2 n3 : ℕ) (o1 o2 o3 : ℤ) (corrections : List ℤ) (uncertainties : List ℕ)
    : Type 0 where
  pub sizes : sizes_allowed n1 n2 n3 ≡ true
  pub origin1 : mag o1 < 32768
  pub origin2 : mag o2 < 32768
  pub origin3 : mag o3 < 32768
  pub count1 : length corrections ≡ n1 * n2 * n3
  pub count2 : length uncertainties ≡ n1 * n2 * n3
  pub range1 : (i : ℕ) → i < n1 * n2 * n3 → mag (get_or corrections i (pos 0)) < 32768
  pub range2 : (i : ℕ) → i < n1 * n2 * n3 → get_or uncertainties i 0 ≤ 32767
  pub gaps : (i : ℕ) → i < n1 * n2 * n3
      → is_gap (get_or corrections i (pos 0)) ≡ true → get_or uncertainties i 0 ≡ 0

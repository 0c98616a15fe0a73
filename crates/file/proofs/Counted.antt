-- An entry by the number of entries.
use mathlib.Core.List.{List}
use mathlib.Core.Path.{◌≡◌, ap}
use Prim.Native.Nat.{ℕ}
use Rattle.file.specs.File.{entry, entry_count, uncertainties_start, uncertainty}

-- behind as many corrections as the sizes give, the uncertainty of entry i
pub behind-count : (file : List ℕ) (n i : ℕ) → n ≡ entry_count file
    → entry file (uncertainties_start n) i ≡ uncertainty file i
unfolding uncertainty
behind-count file n i e = ap (λ (k : ℕ). entry file (uncertainties_start k) i) e

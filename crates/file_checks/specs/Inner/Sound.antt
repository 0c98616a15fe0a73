-- An entry to which the checks of entries do not object.
use Rattle.std.specs.Prelude.{false, List, ◌≡◌, ◌≤◌, ℕ}
use Rattle.unit.specs.Gaps.{uncertain_gap}
use Rattle.file.specs.File.{correction, uncertainty}

-- neither 8 nor 16 speaks of entry i
abbrev pub Sound : List ℕ → ℕ → Type 0
Sound file i =
    (uncertainty file i ≤ 32767) × (uncertain_gap (correction file i) (uncertainty file i) ≡ false)

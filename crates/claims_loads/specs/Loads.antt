-- Loads: what a loaded file gives back, and which files are refused. Section 14.8.
use Rattle.std.specs.Prelude.{Err, List, Ok, cond, drop, eqb, get_or, length, negsuc, true, ℕ, ℤ}
use Rattle.std.specs.Prelude.{◌*◌, ◌++◌, ◌+◌, ◌<◌, ◌↔◌, ◌≡◌, ◌≤◌}
use Rattle.allowed.specs.Allowed.{sizes_allowed}
use Rattle.unit.specs.Unit.{with_block}
use Rattle.unit.specs.declared.Unit.{Unit}
use Rattle.file.specs.File.{correction, entry_count, size1, size2, size3, uncertainty}
use Rattle.file_checks.specs.FileChecks.{layout_checks}
use Rattle.field.specs.Load.{load_answer, load_corrections, load_uncertainties}
use Rattle.encoding.specs.Encoding.{WithinLimits, encoding}
use Rattle.checks.specs.Checks.{no_refusal}
use Rattle.checks.specs.declared.Refusal.TheVariants.{BadLength, LargeUncertainty, ShortFile, UncertainGap}

-- ---- what a load equals

-- A file that encodes sizes and entries within limits, no gap with an uncertainty among them, and any origin
-- of 16 bits is a list of bytes. Loaded into slices with room it gives back exactly these: the unit has the
-- sizes and the origin, the slices begin with the entries, and past them they are as found.
abbrev pub LoadGivesBack : Type 0
LoadGivesBack =
    (n1 n2 n3 : ℕ) (o1 o2 o3 : ℤ) (cs : List ℤ) (us : List ℕ) → WithinLimits n1 n2 n3 o1 o2 o3 cs us
    → (let n = n1 * n2 * n3 in
    let file = encoding n1 n2 n3 o1 o2 o3 cs us in
    ((i : ℕ) → get_or file i 0 < 256)
    × ((u : Unit) (corrections : List ℤ) (uncertainties : List ℕ)
    → n ≤ length corrections → n ≤ length uncertainties
    → (load_answer u file corrections uncertainties ≡ Ok (with_block u n1 n2 n3 o1 o2 o3))
    × (load_corrections file corrections uncertainties ≡ cs ++ drop n corrections)
    × (load_uncertainties file corrections uncertainties ≡ us ++ drop n uncertainties)))

-- ---- files without an origin

-- A file of the layout before 0.7.0, allowed sizes and right behind them the two arrays of n entries, is
-- refused whatever the unit and the slices are: by 5 where n is 1, else by 7. Both slices stay as found.
abbrev pub OldLayout : Type 0
OldLayout =
    (u : Unit) (file : List ℕ) (corrections : List ℤ) (uncertainties : List ℕ)
    → sizes_allowed (size1 file) (size2 file) (size3 file) ≡ true
    → (let n = entry_count file in
    length file ≡ 6 + 4 * n
    → (load_answer u file corrections uncertainties ≡ Err (cond (eqb n 1) ShortFile BadLength))
    × (load_corrections file corrections uncertainties ≡ corrections)
    × (load_uncertainties file corrections uncertainties ≡ uncertainties))

-- ---- 8 and 16

-- i is the lowest of the numbers below n of which P holds
pub record IsLowest (n : ℕ) (P : ℕ → Type 0) (i : ℕ) : Type 0 where
  pub below : i < n
  pub holds : P i
  pub none_lower : (j : ℕ) → j < i → P j → ⊥

-- the uncertainty of entry i is over the limit
abbrev pub OverLimit : List ℕ → ℕ → Type 0
OverLimit file i = 32767 < uncertainty file i

-- entry i has the correction −32768, and an uncertainty
abbrev pub GapWithUncertainty : List ℕ → ℕ → Type 0
GapWithUncertainty file i = (correction file i ≡ negsuc 32767) × (0 < uncertainty file i)

-- Whatever the slices are, a load is refused by 8 exactly where none of 5, 6, 7 applies and an uncertainty is
-- over the limit, at the lowest such entry.
abbrev pub LoadEight : Type 0
LoadEight =
    (u : Unit) (file : List ℕ) (corrections : List ℤ) (uncertainties : List ℕ) (i : ℕ)
    → (load_answer u file corrections uncertainties ≡ Err (LargeUncertainty i))
    ↔ ((layout_checks file ≡ no_refusal) × IsLowest (entry_count file) (OverLimit file) i)

-- It is refused by 16 exactly where none of 5, 6, 7 applies, no uncertainty of the file is over the limit and
-- a gap has one, at the lowest such entry.
abbrev pub LoadSixteen : Type 0
LoadSixteen =
    (u : Unit) (file : List ℕ) (corrections : List ℤ) (uncertainties : List ℕ) (i : ℕ)
    → (load_answer u file corrections uncertainties ≡ Err (UncertainGap i))
    ↔ ((layout_checks file ≡ no_refusal)
    × ((j : ℕ) → j < entry_count file → OverLimit file j → ⊥)
    × IsLowest (entry_count file) (GapWithUncertainty file) i)

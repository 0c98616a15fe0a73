-- A load to which no refusal applies, and what it writes.
use mathlib.Core.List.{List}
use mathlib.Core.Path.{◌∙◌, ◌≡◌, ap, sym}
use Prim.Native.Nat.{◌≤◌, ℕ}
use borrow.Author.Tests.{le-ltb}
use lib.IntN.{ℤ}
use lib.ListN.{length}
use Rattle.sums.proofs.Fill.{filled-cong}
use Rattle.checks.proofs.Checks.{then-passed}
use Rattle.limits.proofs.Accepted.{room-passed}
use Rattle.file.proofs.Counted.{behind-count}
use Rattle.file.specs.File.{correction, entry, entry_count, file_length, uncertainties_start}
use Rattle.file_checks.proofs.Accepted.{LayoutAccepted, file-layout}
use Rattle.file_checks.specs.FileChecks.{file_checks}
use Rattle.file_entries.proofs.Rooms.{all-written}
use Rattle.file_entries.specs.Written.{written}
use Rattle.field.specs.Load.{load_checks, load_corrections, load_uncertainties}
use Rattle.checks.specs.Checks.{no_refusal}

-- a load of an accepted file into slices with room is not refused
pub accepted-load : (file : List ℕ) (corrections_length uncertainties_length : ℕ)
    → file_checks file ≡ no_refusal
    → entry_count file ≤ corrections_length → entry_count file ≤ uncertainties_length
    → load_checks file corrections_length uncertainties_length ≡ no_refusal
unfolding load_checks
accepted-load file corrections_length uncertainties_length passed room1 room2 =
    simp (passed, le-ltb _ _ room1, le-ltb _ _ room2)

module _ (file : List ℕ) (corrections : List ℤ) (uncertainties : List ℕ)
    (passed : load_checks file (length corrections) (length uncertainties) ≡ no_refusal) where
  -- where it is not, the file is accepted and both slices have room
  parts : (file_checks file ≡ no_refusal)
      × (entry_count file ≤ length corrections) × (entry_count file ≤ length uncertainties)
  unfolding load_checks
  parts =
      let p = then-passed (file_checks file) _ passed in
      let r = room-passed (entry_count file) (length corrections) (length uncertainties) p.1 in
      (p.0, r.0, r.1)

  layout : LayoutAccepted file
  layout = file-layout file parts.0

  -- it has 4096 entries at most
  pub most-entries : entry_count file ≤ 4096
  most-entries = layout.sizes.entries

  -- what is written of them is what a load leaves
  module _ (n : ℕ) (count : n ≡ entry_count file) where
    exact : length file ≡ file_length n
    exact = layout.exact ∙ ap file_length (sym count)

    pub corrections-loaded : written file n (correction file) corrections
        ≡ load_corrections file corrections uncertainties
    unfolding load_corrections
    corrections-loaded =
        sym (all-written file n _ corrections exact (rw count parts.1)).1 ∙ simp (passed, count)

    pub uncertainties-loaded : written file n (entry file (uncertainties_start n)) uncertainties
        ≡ load_uncertainties file corrections uncertainties
    unfolding load_uncertainties
    uncertainties-loaded =
        sym (all-written file n _ uncertainties exact (rw count parts.2)).1
        ∙ filled-cong _ _ n uncertainties (λ i _. behind-count file n i count)
        ∙ simp (passed, count)

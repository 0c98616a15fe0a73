-- `main` ends: each byte that is read was wanted, so with it fewer are left to want.
use mathlib.Core.List.{List}
use mathlib.Core.Path.{◌∙◌, subst, sym}
use Prim.Native.Nat.{◌<◌, ℕ}
use Rattle.input.proofs.Reading.{fewer-left, left}
use Rattle.input.specs.Reading.{held}
use Rattle.shares.proofs.main.Goals as goal

pub loop-reader-smaller : goal.loop-reader-smaller
loop-reader-smaller c =
    let s = held c.loop-reader.typed in
    subst (λ (l : List ℕ). left l < left s) (sym c.with_byte-typed.ensures)
    (fewer-left s _ (sym c.wants_more.ensures ∙ c.loop-reader-test.true))

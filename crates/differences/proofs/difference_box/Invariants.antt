-- Row by row, the places before the row at hand are written, and the cells of y and z have run along.
use mathlib.Core.List.{List}
use Prim.Native.Nat.{ℕ}
use lib.IntN.{ℤ}
use Rattle.spline.specs.Build.{direction}
use Rattle.spline.specs.Place.{a2, a3}
use Rattle.shape.proofs.Rows.{Filled}
use Rattle.shape.specs.Shape.{widths}
use Rattle.shape.specs.declared.Shape.{Shape}
use Rattle.differences.proofs.DifferenceRows.{IsCell}
use Rattle.differences.specs.Pass.{index_difference}
use Rattle.differences.proofs.difference_box.Given as goal

-- what the work slice holds before the row y of the layer z
abbrev pub Written : List ℕ → Shape → Shape → ℕ → List ℤ → List ℤ → ℕ → ℕ → Type 0
Written net old new d =
    Filled (index_difference (direction d) old.m (widths old) net (widths new))
    new.w1 new.w2 new.w3

abbrev pub invariant-loop-y : goal.invariant-loop-y
invariant-loop-y l =
    IsCell (direction l.d) l.g a2 l.y l.cy
    × ((base : List ℤ) → Written l.net l.old l.new l.d base l.initial.work 0 l.z
    → Written l.net l.old l.new l.d base l.work l.y l.z)

abbrev pub invariant-loop-z : goal.invariant-loop-z
invariant-loop-z l =
    IsCell (direction l.d) l.g a3 l.z l.cz
    × Written l.net l.old l.new l.d l.initial.work l.work 0 l.z

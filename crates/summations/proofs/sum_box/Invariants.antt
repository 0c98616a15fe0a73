-- Row by row, the places before the row at hand are summed.
use mathlib.Core.List.{List}
use Prim.Native.Nat.{ℕ}
use lib.IntN.{ℤ}
use Rattle.spline.specs.Build.{direction}
use Rattle.shape.proofs.Rows.{Filled}
use Rattle.shape.specs.Shape.{widths}
use Rattle.shape.specs.declared.Shape.{Shape}
use Rattle.summations.specs.Pass.{line_number}
use Rattle.summations.proofs.sum_box.Given as goal

-- what the net slice holds before the row y of the layer z
abbrev pub Summed : List ℤ → Shape → ℕ → List ℕ → List ℕ → ℕ → ℕ → Type 0
Summed work s d = Filled (line_number (direction d) (widths s) work) s.w1 s.w2 s.w3

abbrev pub invariant-loop-y : goal.invariant-loop-y
invariant-loop-y l =
    (base : List ℕ) → Summed l.work l.s l.d base l.initial.net 0 l.z
    → Summed l.work l.s l.d base l.net l.y l.z

abbrev pub invariant-loop-z : goal.invariant-loop-z
invariant-loop-z l = Summed l.work l.s l.d l.initial.net l.net 0 l.z

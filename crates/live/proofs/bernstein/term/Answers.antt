-- The numbers are as they were handed over, and a float has each of them.
use mathlib.Core.Path.{◌≡◌, ap}
use native.Mathlib.Omega.{arith}
use lib.Ieee.{binary64, mul}
use lib.IntN.{pos, ℤ}
use mir.Facts.{to_z-of_z, to_z_pos}
use mir.Syntax.{w64}
use mir.Val.{of_z, to_z}
use Rattle.sums.proofs.MachineSizes.{fits}
use Rattle.floats.proofs.Whole.{int-in}
use Rattle.floats.specs.Floats.{float}
use Rattle.live.proofs.bernstein.term.Goals as goal
use Rattle.live.proofs.bernstein.term.Goals.{Start}

module _ (s : Start) where
  shift-read : to_z w64 (of_z w64 s.args.shift) ≡ s.args.shift
  shift-read = to_z-of_z (fits w64 s.args.shift (omega (arith, s.requires.0)))

  spread-read : to_z w64 s.args.spread ≡ pos s.args.spread
  spread-read = to_z_pos w64 {n = s.args.spread} (omega (arith, s.requires.1))

pub int_to_float-x : goal.int_to_float-x
int_to_float-x c =
    rw (shift-read (goal.at.int_to_float-x c).Start) (int-in binary64 c.args.shift c.requires.0)

pub int_to_float-y : goal.int_to_float-y
int_to_float-y c =
    rw (spread-read (goal.at.int_to_float-y c).Start) (int-in binary64 (pos c.args.spread) c.requires.1)

pub returns : goal.returns
returns c = (
  ap (λ (z : ℤ). mul binary64 (float z) c.args.w) (shift-read (goal.at.returns c).Start),
  ap (λ (z : ℤ). mul binary64 (float z) c.args.w) (spread-read (goal.at.returns c).Start),
)

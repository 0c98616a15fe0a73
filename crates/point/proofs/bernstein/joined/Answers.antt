-- The sizes of the two summands bound the sum.
use mathlib.Core.Path.{◌≡◌, refl}
use native.Mathlib.Omega.{arith}
use mir.Facts.{to_z-of_z}
use mir.Syntax.{w64}
use mir.Val.{of_z, to_z}
use Rattle.sums.proofs.MachineSizes.{fits}
use Rattle.blending.proofs.Machine.{add-fits, add_read}
use Rattle.point.proofs.bernstein.joined.Goals as goal
use Rattle.point.proofs.bernstein.joined.Goals.{Start}

second : (s : Start) → to_z w64 (of_z w64 s.args.t.numerator) ≡ s.args.t.numerator
second s = to_z-of_z (fits w64 s.args.t.numerator (let h = s.requires.0 in omega arith))

pub overflow_add-result : goal.overflow_add-result
overflow_add-result c = rw (second (goal.at.overflow_add-result c).Start) (add-fits c.args.s.numerator c.args.t.numerator c.requires.0)

pub returns : goal.returns
returns c = rw (second (goal.at.returns c).Start, add_read c.args.s.numerator c.args.t.numerator c.requires.0) refl

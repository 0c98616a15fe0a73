-- A block's index is small.
use native.Mathlib.Omega.{arith}
use Rattle.blending.proofs.Indices.{entry-layer, entry_row}
use Rattle.blending.proofs.adding.entry_at.Goals as goal

pub overflow_mul-result : goal.overflow_mul-result
overflow_mul-result c = omega (arith, entry-layer c.args.f c.requires.0 c.args.at c.requires.1)

pub overflow_add-result-4 : goal.overflow_add-result-4
overflow_add-result-4 c = omega (arith, entry-layer c.args.f c.requires.0 c.args.at c.requires.1)

pub overflow_mul-result-2 : goal.overflow_mul-result-2
overflow_mul-result-2 c = omega (arith, entry_row c.args.f c.requires.0 c.args.at c.requires.1)

pub overflow_add-result-5 : goal.overflow_add-result-5
overflow_add-result-5 c = omega (arith, entry_row c.args.f c.requires.0 c.args.at c.requires.1)

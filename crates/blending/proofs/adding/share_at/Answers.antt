-- A net's index is small.
use native.Mathlib.Omega.{arith}
use Rattle.blending.proofs.Indices.{share-layer, share-row, share-whole}
use Rattle.blending.proofs.adding.share_at.Goals as goal

pub overflow_mul-result : goal.overflow_mul-result
overflow_mul-result c = omega (arith, share-layer c.args.f c.requires.0 c.args.at c.requires.1)

pub overflow_add-result : goal.overflow_add-result
overflow_add-result c = omega (arith, share-layer c.args.f c.requires.0 c.args.at c.requires.1)

pub overflow_mul-result-2 : goal.overflow_mul-result-2
overflow_mul-result-2 c = omega (arith, share-row c.args.f c.requires.0 c.args.at c.requires.1)

pub overflow_add-result-2 : goal.overflow_add-result-2
overflow_add-result-2 c = omega (arith, share-row c.args.f c.requires.0 c.args.at c.requires.1)

pub overflow_mul-result-3 : goal.overflow_mul-result-3
overflow_mul-result-3 c = omega (arith, share-whole c.args.f c.requires.0 c.args.at c.requires.1)

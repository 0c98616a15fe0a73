-- The sizes of the factors bound the products.
use mathlib.Core.Path.{refl}
use mir.Syntax.{w64}
use Rattle.sums.proofs.MachineSizes.{mul-fits, mul-read}
use Rattle.point.proofs.bernstein.term.Goals as goal

pub overflow_mul-result : goal.overflow_mul-result
overflow_mul-result c = mul-fits w64 c.args.shift c.args.w c.requires.0 c.requires.2 c.requires.1

pub returns : goal.returns
returns c = rw (mul-read w64 c.args.shift c.args.w c.requires.0 c.requires.2 c.requires.1) refl

-- `main` ends: each byte that is read was wanted, so with it fewer are left to want.
use Rattle.input.proofs.Reading.{left}
use Rattle.input.specs.Reading.{held}
use Rattle.shares.proofs.main.Given as goal

abbrev pub decreases-loop-reader : goal.decreases-loop-reader
decreases-loop-reader l = left (held l.typed)

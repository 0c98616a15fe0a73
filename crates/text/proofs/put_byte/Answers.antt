-- `put_byte` meets its contract: there is room for the byte where its place is below the slice's length.
use mathlib.Core.Path.{sym}
use native.Mathlib.Omega.{arith}
use lib.Seq.{set_out}
use Rattle.text.proofs.put_byte.Goals as goal

pub returns : goal.returns
returns c =
    let a = c.args in
    record { goes_on = omega arith; holds = sym (set_out a.text.now a.at a.byte (omega arith)) }

-- A digit is put, and a larger number's last after those of its tenth.
use native.Mathlib.Omega.{arith}
use Rattle.text.proofs.Decimals.{decimal-large, decimal-small}
use Rattle.text.proofs.Puts.{put_then}
use Rattle.text.proofs.+put_decimal.Goals as goal

pub returns-then-n-lt10 : goal.returns-then-n-lt10
returns-then-n-lt10 t c = rw (decimal-small c.args.n (omega arith)) c.put_byte.ensures

pub returns : goal.returns
returns t c =
    rw (decimal-large c.args.n c.if-n-lt10.false) (put_then c.put_decimal-last.ensures c.put_byte-2.ensures)

-- A byte more of the word is put.
use native.Mathlib.Omega.{arith}
use Rattle.text.proofs.Puts.{put_next}
use Rattle.text.proofs.put_word.Goals as goal

pub loop-byte-preserved : goal.loop-byte-preserved
loop-byte-preserved c =
    let l = c.loop-byte in
    put_next c.args.word.now l.byte-index (omega arith) l.invariant c.put_byte-next.ensures

-- `put_refusal` meets its contract: word and number come one after the other, of at most 19 bytes together.
use Prim.Native.Nat.{◌<◌, ◌^◌}
use native.Mathlib.Omega.{arith}
use Rattle.text.proofs.Puts.{put_then}
use Rattle.lines.proofs.Lengths.{refused-length}
use Rattle.lines.specs.Lines.{refused_text}
use Rattle.lines.proofs.put_refusal.Goals as goal

pub returns : goal.returns
unfolding refused_text
returns c =
    let n = c.args.number in
    let h : n < 10 ^ 10 = omega arith in
    (put_then c.put_word-at.ensures c.put_item.ensures, refused-length n h)

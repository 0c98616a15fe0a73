-- `put_header` meets its contract: words and numbers come one after the other.
use Rattle.text.proofs.Puts.{put_then}
use Rattle.lines.specs.Lines.{header_text}
use Rattle.lines.proofs.put_header.Goals as goal

pub returns : goal.returns
unfolding header_text
returns c =
    let t = put_then c.put_word-at.ensures c.put_triple-at.ensures in
    put_then (put_then t c.put_word-at-2.ensures) c.put_item.ensures

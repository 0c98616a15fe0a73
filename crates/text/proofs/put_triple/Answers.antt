-- `put_triple` meets its contract: the items come one after the other.
use Rattle.text.proofs.Puts.{put_then}
use Rattle.text.specs.Text.{triple}
use Rattle.text.proofs.put_triple.Goals as goal

pub returns : goal.returns
unfolding triple
returns c = put_then (put_then c.put_item-after_a.ensures c.put_item-after_b.ensures) c.put_item.ensures

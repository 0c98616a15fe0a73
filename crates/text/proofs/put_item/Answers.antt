-- `put_item` meets its contract: the byte is put where the number ends.
use Rattle.text.proofs.Puts.{put_then}
use Rattle.text.specs.Text.{item}
use Rattle.text.proofs.put_item.Goals as goal

pub returns : goal.returns
unfolding item
returns c = put_then c.put_decimal-last.ensures c.put_byte.ensures

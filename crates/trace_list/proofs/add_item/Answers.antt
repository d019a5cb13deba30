use Rattle.text.specs.TextLaws.{◌then◌}
use Rattle.trace_list.proofs.add_item.Goals as goal

-- src/main.rt:48:1
pub returns : goal.returns
returns c = (rw c.make_room-from.ensures at c.put_item-end.ensures) then c.put_byte.ensures

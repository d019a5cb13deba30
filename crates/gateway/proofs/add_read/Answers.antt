use Rattle.text.specs.TextLaws.{◌then◌}
use Rattle.gateway.proofs.add_read.Goals as goal

pub returns : goal.returns
returns c = (rw c.make_room-from.ensures at c.put_read-end.ensures) then c.put_byte.ensures

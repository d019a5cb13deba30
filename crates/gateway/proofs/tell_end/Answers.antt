use Rattle.text.specs.TextLaws.{◌then◌}
use Rattle.gateway.proofs.tell_end.Goals as goal

pub returns-in-EndsNotRead : goal.returns-in-EndsNotRead
returns-in-EndsNotRead c = rw (← c.next_packet.ensures, c.in-EndsNotRead.is) (c.put_not_read-end.ensures then c.put_byte-end.ensures).bytes

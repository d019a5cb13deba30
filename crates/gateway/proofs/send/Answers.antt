use Rattle.console.specs.LineWritingLaws.{line_laid}
use Rattle.gateway.proofs.send.Goals as goal

pub returns-in-Send : goal.returns-in-Send
returns-in-Send c = rw (← c.next_packet.ensures, c.in-Send.is) (line_laid c.put_packet-end.ensures c.say.ensures)

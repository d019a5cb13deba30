use Rattle.text.specs.TextLaws.{◌then◌}
use Rattle.gateway.proofs.tell_unclear.Goals as goal

pub returns : goal.returns
returns c = (c.put_unclear-end.ensures then c.put_byte-end.ensures).bytes

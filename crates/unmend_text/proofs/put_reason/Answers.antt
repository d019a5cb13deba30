use Rattle.text.specs.TextLaws.{◌then◌}
use Rattle.unmend_text.proofs.put_reason.Goals as goal

pub returns-in-Unclear : goal.returns-in-Unclear
returns-in-Unclear c = rw c.in-Unclear.is (c.put_unclear-at.ensures then c.put_byte.ensures)

pub returns-in-NotItsList : goal.returns-in-NotItsList
returns-in-NotItsList c = rw c.in-NotItsList.is c.put_text.ensures

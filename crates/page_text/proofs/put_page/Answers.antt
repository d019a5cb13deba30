use Rattle.text.specs.TextLaws.{◌then◌}
use Rattle.page_text.proofs.put_page.Goals as goal

pub returns-in-Err : goal.returns-in-Err
returns-in-Err c = rw c.in-Err.is (c.put_refusal_at-at.ensures then c.put_byte.ensures)

pub returns-in-Ok : goal.returns-in-Ok
returns-in-Ok c = rw c.in-Ok.is c.put_lines.ensures

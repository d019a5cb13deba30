use Rattle.text.specs.TextLaws.{◌then◌}
use Rattle.request_text.proofs.put_reading.Goals as goal

pub returns-in-Ok : goal.returns-in-Ok
returns-in-Ok c = rw c.in-Ok.is (c.put_so_far-at.ensures then c.put_used.ensures)

pub returns-in-Err : goal.returns-in-Err
returns-in-Err c = rw c.in-Err.is c.put_refusal.ensures

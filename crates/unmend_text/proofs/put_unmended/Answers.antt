use Rattle.unmend_text.proofs.put_unmended.Goals as goal

pub returns-in-Ok : goal.returns-in-Ok
returns-in-Ok c = rw c.in-Ok.is (rw c.saturating_sub.ensures at c.put_counts.ensures)

pub returns-in-Err : goal.returns-in-Err
returns-in-Err c = rw c.in-Err.is c.put_reason.ensures

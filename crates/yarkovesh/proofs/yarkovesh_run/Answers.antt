use Rattle.yarkovesh.specs.ExportedLaws.{run_is_fresh, refused_is_fresh}
use Rattle.yarkovesh.proofs.yarkovesh_run.Goals as goal

pub returns-in-Ok : goal.returns-in-Ok
returns-in-Ok c = rw c.number_of.ensures
    (run_is_fresh c.make-made.ensures c.in-Ok.is c.take_packets-ran.ensures)

pub returns-in-Err : goal.returns-in-Err
returns-in-Err c = rw c.number_of-in-Err.ensures (refused_is_fresh c.make-made.ensures c.in-Err.is)

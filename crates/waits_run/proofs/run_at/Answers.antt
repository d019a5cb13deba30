use Rattle.waits_run.specs.WaitsRunLaws.{run_so}
use Rattle.waits_run.proofs.run_at.Goals as goal

-- src/lib.rt:50:1
pub returns : goal.returns
returns c = run_so c.start-bench.ensures c.take_lines-gone.ensures c.put_state_line.ensures

use Rattle.waits_run.specs.WaitsRun.{start_at}
use Rattle.waits_run.specs.WaitsRunLaws.{cleared_whole}
use Rattle.waits_run.proofs.start.Goals as goal

-- src/lib.rt:22:1
pub returns : goal.returns
unfolding start_at
returns c = let made = c.make-made.ensures in
    rw (made.board, made.place, c.clear.ensures, cleared_whole c.args.memory.now)

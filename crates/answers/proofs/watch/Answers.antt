use Rattle.answers.specs.SaidLaws.{event_outcome_lem}
use Rattle.answers.proofs.watch.Goals as goal

pub returns : goal.returns
returns c = let taken = c.take_event-answer.ensures in (rw taken.board, rw (← event_outcome_lem taken) c.put_event.ensures)

use Rattle.answers.specs.SaidLaws.{breakpoint_outcome_lem}
use Rattle.answers.proofs.press.Goals as goal

pub returns : goal.returns
returns c = let taken = c.press_breakpoint-answer.ensures in (rw taken.board, rw (← breakpoint_outcome_lem taken) c.put_breakpoint.ensures)

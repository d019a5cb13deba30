use Rattle.waits_lines.proofs.is_taken.Goals as goal

pub returns-in-Board : goal.returns-in-Board
returns-in-Board c = rw c.in-Board.is c.prepares.ensures

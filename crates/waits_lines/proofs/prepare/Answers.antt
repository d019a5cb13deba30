use Rattle.waits_lines.proofs.prepare.Goals as goal

pub returns : goal.returns
returns c = let said = c.answer_line.ensures in rw (said.memory, said.bench)

use Rattle.state_line.proofs.put_chain.Goals as goal

pub returns-in-Off : goal.returns-in-Off
returns-in-Off c = rw c.in-Off.is c.put_text.ensures

pub returns-in-Dumping : goal.returns-in-Dumping
returns-in-Dumping c = rw c.in-Dumping.is c.put_text-in-Dumping.ensures

pub returns-in-Filling : goal.returns-in-Filling
returns-in-Filling c = rw c.in-Filling.is c.put_text-in-Filling.ensures

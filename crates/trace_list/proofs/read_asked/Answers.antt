use Rattle.trace_list.specs.Asked.{none, one, more}
use Rattle.trace_list.proofs.read_asked.Goals as goal

pub returns-in-0 : goal.returns-in-0
returns-in-0 g c = none

pub returns-in-2 : goal.returns-in-2
returns-in-2 g c = rw c.read_from.ensures (one _)

pub returns-in_default : goal.returns-in_default
returns-in_default g c = more

use Rattle.state_line.specs.StateTextLaws.{bit}
use Rattle.state_line.proofs.put_status.Goals as goal

pub returns : goal.returns
returns c = rw (c.from.ensures, bit _, c.csr_of.ensures) at c.put_fields.ensures

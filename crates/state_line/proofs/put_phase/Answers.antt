use Rattle.text.specs.TextLaws.{◌then◌}
use Rattle.state_line.proofs.put_phase.Goals as goal

pub returns-in-Due : goal.returns-in-Due
returns-in-Due c = rw c.in-Due.is (c.put_text-at.ensures then c.put_number.ensures)

pub returns-in-Waiting : goal.returns-in-Waiting
returns-in-Waiting c = rw c.in-Waiting.is (c.put_text-at-in-Waiting.ensures then c.put_number-in-Waiting.ensures)

pub returns-in-Upper : goal.returns-in-Upper
returns-in-Upper c = rw c.in-Upper.is (c.put_text-at-in-Upper.ensures then c.put_hex.ensures)

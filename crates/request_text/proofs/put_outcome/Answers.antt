use Rattle.text.specs.TextLaws.{◌then◌}
use Rattle.request_text.proofs.put_outcome.Goals as goal

pub returns-in-Value : goal.returns-in-Value
returns-in-Value c = rw c.in-Value.is (c.put_text-at.ensures then c.put_hex.ensures)

use Rattle.text.specs.TextLaws.{◌then◌}
use Rattle.replies.proofs.put_captured.Goals as goal

pub returns-in-Some : goal.returns-in-Some
returns-in-Some c = rw c.in-Some.is (c.put_text-at.ensures then c.put_hex.ensures)

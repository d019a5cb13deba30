use Rattle.text.specs.TextLaws.{◌then◌}
use Rattle.replies.proofs.put_reply.Goals as goal

pub returns-in-Ok : goal.returns-in-Ok
returns-in-Ok c = rw c.in-Ok.is (c.put_text-at.ensures then c.put_hex.ensures)

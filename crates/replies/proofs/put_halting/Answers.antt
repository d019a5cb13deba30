use Rattle.text.specs.TextLaws.{nothing}
use Rattle.replies.proofs.put_halting.Goals as goal

pub returns-in-NoHalt : goal.returns-in-NoHalt
returns-in-NoHalt c = rw c.in-NoHalt.is (nothing _ _)

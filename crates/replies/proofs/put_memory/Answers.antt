use Rattle.text.specs.TextLaws.{all_remains, rest_remains, none_remains}
use Rattle.replies.specs.ReplyTextLaws.{bytes_begin, bytes_on, bytes_end}
use Rattle.replies.proofs.put_memory.Goals as goal

pub loop-i-init : goal.loop-i-init
loop-i-init c = rw (bytes_begin _ _ _) (all_remains _ _ _)

pub loop-i-preserved : goal.loop-i-preserved
loop-i-preserved c = let here = c.loop-i in rest_remains (rw (bytes_on _ _ _ here.i c.loop-i-test.true) at here.invariant) (rw c.byte_of.ensures at c.put_hex-to.ensures)

pub returns : goal.returns
returns c = let here = c.loop-i in none_remains (rw (bytes_end _ _ _ here.i c.loop-i-test.false) at here.invariant)

use Rattle.text.proofs.NumberTextLaws.{left_next}
use Rattle.text.proofs.shifted.Goals as goal

pub loop-preserved : goal.loop-preserved
loop-preserved c = rw c.loop.invariant (left_next _ _ c.loop.counter)

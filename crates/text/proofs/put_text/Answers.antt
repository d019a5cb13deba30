use Rattle.laws.specs.PlaceLaws.{from_here}
use Rattle.text.specs.TextLaws.{rest_remains}
use Rattle.text.proofs.put_text.Goals as goal

pub loop-byte-preserved : goal.loop-byte-preserved
loop-byte-preserved c = let at = c.loop-byte in rest_remains (rw (from_here _ at.byte-index c.loop-byte-test.true) at at.invariant) c.put_byte-to.ensures

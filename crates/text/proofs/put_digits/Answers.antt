use Rattle.text.specs.TextLaws.{rest_remains, none_remains}
use Rattle.text.proofs.NumberTextLaws.{digits_on, digits_none}
use Rattle.text.proofs.put_digits.Goals as goal

pub loop-left-preserved : goal.loop-left-preserved
loop-left-preserved c = let at = c.loop-left in rest_remains (rw (digits_on _ at.left _ c.loop-left-test.true) at at.invariant) (rw (c.digit_of.ensures, c.shifted.ensures) at c.put_byte-to.ensures)

pub returns : goal.returns
returns c = let at = c.loop-left in none_remains (rw (digits_none _ at.left _ c.loop-left-test.false) at at.invariant)

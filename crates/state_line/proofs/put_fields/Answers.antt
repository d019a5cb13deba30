use Rattle.text.specs.TextLaws.{rest_remains, none_remains}
use lib.ListN.{drop_of_length-le}
use Rattle.state_line.specs.StateTextLaws.{form_on}
use Rattle.state_line.proofs.put_fields.Goals as goal

pub loop-mark-preserved : goal.loop-mark-preserved
loop-mark-preserved c = let here = c.loop-mark in
    let put = c.put_mark-put.ensures in
    rw put.1 (rest_remains (rw (form_on _ _ here.mark-index here.put.next c.loop-mark-test.true) at here.invariant) put.0)

pub returns : goal.returns
returns c = let here = c.loop-mark in none_remains (rw (drop_of_length-le _ c.loop-mark-test.false) at here.invariant)

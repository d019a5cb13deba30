use lib.ListN.{drop_of_length-le}
use Rattle.text.specs.TextLaws.{◌then◌, rest_remains, none_remains}
use Rattle.request_text.specs.RequestTextLaws.{words_on}
use Rattle.request_text.proofs.put_words.Goals as goal

pub loop-word-preserved : goal.loop-word-preserved
loop-word-preserved c = let here = c.loop-word in rest_remains (rw (words_on _ here.word-index c.loop-word-test.true) at here.invariant) (c.put_byte-at.ensures then c.put_hex-at.ensures)

pub returns : goal.returns
returns c = let here = c.loop-word in c.put_text-at.ensures then (none_remains (rw (drop_of_length-le _ c.loop-word-test.false) at here.invariant))

use mathlib.Core.Path.{refl}
use lib.ListN.{drop_of_length-le}
use Rattle.text.specs.TextLaws.{all_remains, rest_remains, none_remains}
use Rattle.mend_text.specs.MendTextLaws.{lines_next}
use borrow.Author.Rules.{rules}
use Rattle.mend_text.proofs.put_changes.Goals as goal

pub loop-word-init : goal.loop-word-init
loop-word-init c = (refl, all_remains _ _ _)

pub loop-word-preserved : goal.loop-word-preserved
loop-word-preserved c = let here = c.loop-word in (
  search rules,
  rest_remains (rw (lines_next _ here.word-index c.loop-word-test.true) at here.invariant.1) c.put_change-at.ensures,
)

pub returns : goal.returns
returns c = let here = c.loop-word in none_remains (rw (drop_of_length-le _ c.loop-word-test.false) at here.invariant.1)

use Rattle.text.specs.TextLaws.{◌then◌, nothing}
use borrow.Author.Tests.{eq-eqb, ne_eqb}
use Rattle.page_text.proofs.lines.put_code.Goals as goal

pub returns-then-count-eq0 : goal.returns-then-count-eq0
returns-then-count-eq0 c = rw (eq-eqb _ _ c.if-count-eq0.true) (nothing _ _)

pub returns : goal.returns
returns c = let occurs = c.if-count-eq0.false in
    let code = c.put_named-at.ensures in
    rw (ne_eqb _ _ occurs) (code
    then c.put_named-at-2.ensures
    then c.put_named-at-3.ensures
    then c.put_named-at-4.ensures
    then c.end_line.ensures)

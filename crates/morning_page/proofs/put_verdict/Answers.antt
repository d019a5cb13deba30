use Rattle.text.specs.TextLaws.{◌then◌}
use borrow.Author.Tests.{eq-eqb, ne_eqb}
use Rattle.morning_page.proofs.put_verdict.Goals as goal

pub returns-then-bad-eq0 : goal.returns-then-bad-eq0
returns-then-bad-eq0 c = rw (eq-eqb _ _ c.if-bad-eq0.true) (c.put_text-at.ensures then c.put_text.ensures)

pub returns : goal.returns
returns c = rw (ne_eqb _ _ c.if-bad-eq0.false) (c.put_text-at-2.ensures
    then c.put_decimal-at.ensures then c.put_text-2.ensures)

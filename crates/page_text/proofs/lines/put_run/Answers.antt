use borrow.Author.Tests.{eq-eqb, ne_eqb}
use Rattle.page_text.proofs.lines.put_run.Goals as goal

pub returns-then-carried-eq0 : goal.returns-then-carried-eq0
returns-then-carried-eq0 c = rw (eq-eqb _ _ c.if-carried-eq0.true) c.put_text.ensures

pub returns : goal.returns
returns c = rw (ne_eqb _ _ c.if-carried-eq0.false) c.put_named.ensures

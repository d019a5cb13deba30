use Rattle.text.specs.TextLaws.{◌then◌}
use borrow.Author.Tests.{lt-ltb, le-ltb}
use Rattle.visit_text.proofs.put_register.Goals as goal

pub returns-then-j-lt8 : goal.returns-then-j-lt8
returns-then-j-lt8 c = rw (lt-ltb _ _ c.if-j-lt8.true) (c.put_text-at.ensures then c.put_hex.ensures)

pub returns : goal.returns
returns c = rw (le-ltb _ _ c.if-j-lt8.false) (c.put_text-at-2.ensures then c.put_hex-2.ensures)

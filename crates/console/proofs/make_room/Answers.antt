use borrow.Author.Tests.{lt-ltb, le-ltb}
use Rattle.console.proofs.make_room.Goals as goal

pub returns-then-at-text : goal.returns-then-at-text
returns-then-at-text g c = rw (lt-ltb _ _ c.if-at-text.true)

pub returns : goal.returns
returns g c = rw (le-ltb _ _ c.if-at-text.false)

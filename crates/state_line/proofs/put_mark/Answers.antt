use Rattle.text.specs.TextLaws.{nothing}
use borrow.Author.Tests.{lt-ltb, le-ltb}
use mathlib.Core.Path.{refl}
use Rattle.state_line.proofs.put_mark.Goals as goal

pub returns-then-mark-gt8 : goal.returns-then-mark-gt8
returns-then-mark-gt8 c = rw (lt-ltb _ _ c.if-mark-gt8.true) (c.put_byte-at.ensures, refl)

pub returns-then-next-values : goal.returns-then-next-values
returns-then-next-values c = rw (le-ltb _ _ c.if-mark-gt8.false, lt-ltb _ _ c.if-next-values.true) (c.put_hex-at.ensures, refl)

pub returns : goal.returns
returns c = rw (le-ltb _ _ c.if-mark-gt8.false, le-ltb _ _ c.if-next-values.false) (nothing _ _, refl)

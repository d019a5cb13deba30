use native.Mathlib.Omega.{arith}
use borrow.Author.Tests.{lt-ltb, le-ltb}
use Rattle.text.specs.NumberText.{digit_text}
use Rattle.text.proofs.digit_of.Goals as goal

pub returns-then-low-lt10 : goal.returns-then-low-lt10
unfolding digit_text
returns-then-low-lt10 c = rw (lt-ltb _ _ c.if-low-lt10.true) (omega arith)

pub returns-else-low-lt10 : goal.returns-else-low-lt10
unfolding digit_text
returns-else-low-lt10 c = rw (le-ltb _ _ c.if-low-lt10.false) (omega arith)

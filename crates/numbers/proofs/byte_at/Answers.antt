use Rattle.numbers.specs.NumberLaws.{byte_out, byte_half}
use mathlib.Core.Path.{sym}
use native.Mathlib.Omega.{arith}
use Rattle.numbers.proofs.byte_at.Goals as goal

pub returns-then-line-at : goal.returns-then-line-at
returns-then-line-at c = sym (byte_out c.args.line.now c.args.at c.if-line-at.true)

pub returns-then-line-at-eq1 : goal.returns-then-line-at-eq1
returns-then-line-at-eq1 c = rw (byte_half c.args.line.now c.args.at (omega arith), c.digit_of-high.ensures.0)

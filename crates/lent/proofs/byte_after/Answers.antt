use native.Mathlib.Omega.{arith}
use Rattle.numbers.specs.NumberLaws.{byte_out}
use Rattle.lent.proofs.byte_after.Goals as goal

pub returns-then-line-start : goal.returns-then-line-start
returns-then-line-start c = grind (arith, byte_out)

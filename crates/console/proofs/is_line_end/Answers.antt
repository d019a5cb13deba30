use native.Mathlib.Omega.{arith}
use Rattle.std.proofs.lemmas.Bool.Decides.{nat_tests}
use Rattle.console.specs.InputLines.{is_line_end}
use Rattle.console.proofs.is_line_end.Goals as goal

pub returns-in-10 : goal.returns-in-10
unfolding is_line_end
returns-in-10 c = grind (arith, nat_tests)

pub returns-in_default : goal.returns-in_default
unfolding is_line_end
returns-in_default c = grind (arith, nat_tests)

use native.Mathlib.Omega.{arith}
use mathlib.Core.List.{[]}
use Rattle.trace_list.proofs.answer.Goals as goal

-- src/main.rt:198:1
pub returns-in-Unclear : goal.returns-in-Unclear
returns-in-Unclear c = rw c.in-Unclear.is (record { trace = []; bytes = λ k. omega arith; shown = c.say_unclear.ensures })

-- src/main.rt:198:1
pub returns-in-Whole : goal.returns-in-Whole
returns-in-Whole c = rw c.in-Whole.is c.list_whole.ensures

-- src/main.rt:198:1
pub returns-in-From : goal.returns-in-From
returns-in-From c = rw c.in-From.is c.list_rest.ensures

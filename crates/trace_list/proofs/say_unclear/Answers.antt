use Rattle.console.specs.LineWritingLaws.{line_laid}
use Rattle.trace_list.proofs.say_unclear.Goals as goal

-- src/main.rt:138:1
pub returns : goal.returns
returns c = line_laid c.put_unclear-end.ensures c.say.ensures

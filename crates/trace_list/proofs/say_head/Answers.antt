use Rattle.console.specs.LineWritingLaws.{line_laid}
use Rattle.trace_list.proofs.say_head.Goals as goal

-- src/main.rt:98:1
pub returns : goal.returns
returns c = line_laid c.put_head-end.ensures c.say.ensures

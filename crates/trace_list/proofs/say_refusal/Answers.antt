use Rattle.console.specs.LineWritingLaws.{line_laid}
use Rattle.trace_list.proofs.say_refusal.Goals as goal

-- src/main.rt:91:1
pub returns : goal.returns
returns c = line_laid c.put_refusal_at-end.ensures c.say.ensures

use mathlib.Core.Path.{◌∙◌}
use Rattle.trace.proofs.TraceReadingLaws.{reading_whole}
use Rattle.trace.proofs.judge_trace.Goals as goal

pub returns : goal.returns
returns c = rw c.nothing_carried.ensures at c.judge_from.ensures ∙ reading_whole c.args.trace.now

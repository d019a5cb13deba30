use Rattle.scripts.specs.ScriptLaws.{went_shown}
use Rattle.script.proofs.show.Goals as goal

pub returns : goal.returns
returns c = went_shown c.requires c.answer-answered.ensures.0 c.put_gap-at.ensures c.answer-answered.ensures.1

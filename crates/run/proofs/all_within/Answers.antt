use mathlib.Core.Path.{sym, ◌∙◌}
use Rattle.run.specs.RunLaws.{within_next, within_out}
use Rattle.run.proofs.all_within.Goals as goal

pub loop-word-preserved : goal.loop-word-preserved
loop-word-preserved c = within_next c.args.words.now _ c.loop-word.within c.loop-word-test.true ∙ c.loop-word.invariant

pub returns : goal.returns
returns c = sym (within_out _ _ _ c.loop-word-test.false) ∙ c.loop-word.invariant

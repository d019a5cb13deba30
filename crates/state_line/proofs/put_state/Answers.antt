use Rattle.text.specs.TextLaws.{◌then◌}
use Rattle.state_line.specs.StateText.{state_text}
use borrow.Author.Rules.{rules}
use Rattle.state_line.proofs.put_state.Goals as goal

pub returns : goal.returns
unfolding state_text
returns c = search (rules, ◌then◌)

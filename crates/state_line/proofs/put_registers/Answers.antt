use Rattle.text.specs.TextLaws.{◌then◌}
use Rattle.state_line.specs.StateText.{registers_text}
use borrow.Author.Rules.{rules}
use Rattle.state_line.proofs.put_registers.Goals as goal

pub returns : goal.returns
unfolding registers_text
returns c = search (rules, ◌then◌)

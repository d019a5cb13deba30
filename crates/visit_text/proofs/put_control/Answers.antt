use Rattle.text.specs.TextLaws.{◌then◌}
use borrow.Author.Rules.{rules}
use Rattle.visit_text.proofs.put_control.Goals as goal

pub returns : goal.returns
returns c = search (rules, ◌then◌)

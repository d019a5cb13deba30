use Rattle.text.specs.TextLaws.{◌then◌}
use borrow.Author.Rules.{rules}
use Rattle.visit_text.proofs.put_result.Goals as goal

pub returns : goal.returns
returns c = search (rules, ◌then◌)

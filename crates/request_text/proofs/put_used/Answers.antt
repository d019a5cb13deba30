use Rattle.text.specs.TextLaws.{◌then◌}
use borrow.Author.Rules.{rules}
use Rattle.request_text.proofs.put_used.Goals as goal

pub returns : goal.returns
returns c = search (rules, ◌then◌)

use Rattle.text.specs.TextLaws.{◌then◌}
use borrow.Author.Rules.{rules}
use Rattle.replies.proofs.put_peek.Goals as goal

pub returns : goal.returns
returns c = search (rules, ◌then◌)

use Rattle.text.specs.TextLaws.{◌then◌}
use borrow.Author.Rules.{rules}
use Rattle.morning_page.proofs.put_under.Goals as goal

pub returns : goal.returns
returns c = search (rules, ◌then◌)

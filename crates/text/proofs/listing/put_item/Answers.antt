use Rattle.text.specs.TextLaws.{◌then◌}
use borrow.Author.Rules.{rules}
use Rattle.text.proofs.listing.put_item.Goals as goal

pub returns : goal.returns
returns c = search (rules, ◌then◌)

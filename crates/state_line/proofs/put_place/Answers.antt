use Rattle.text.specs.TextLaws.{◌then◌}
use borrow.Author.Rules.{rules}
use Rattle.state_line.proofs.put_place.Goals as goal

pub returns : goal.returns
returns c = search (rules, ◌then◌)

use Rattle.summary.specs.NotingLaws.{nothing_noted}
use Rattle.summary.proofs.noting.Noted.new.Goals as goal

pub returns : goal.returns
returns c = nothing_noted

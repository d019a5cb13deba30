use borrow.Author.Rules.{rules}
use Rattle.cycle.specs.Cycle.{after}
use Rattle.cycle.proofs.after_cycle.Goals as goal

pub returns-in-0-to-7 : goal.returns-in-0-to-7
unfolding after
returns-in-0-to-7 c = search rules

pub returns-in-8-to-11 : goal.returns-in-8-to-11
unfolding after
returns-in-8-to-11 c = search rules

pub returns-in_default : goal.returns-in_default
unfolding after
returns-in_default c = search rules

use Rattle.console.specs.GatheringLaws.{gathers_none, gathers_line, gathers_all}
use Rattle.trace_list.specs.ListerGatheringLaws.{lines_on, lines_out}
use mathlib.Core.Path.{refl}
use borrow.Author.Rules.{rules}
use Rattle.trace_list.proofs.write_items.Goals as goal

pub loop-k-init : goal.loop-k-init
loop-k-init c = (refl, gathers_none _ _)

pub loop-k-preserved : goal.loop-k-preserved
loop-k-preserved c = let at = c.loop-k in
    (search rules, gathers_line (rw (lines_on _ at.k c.loop-k-test.true) at at.invariant.1) c.add_item-at.ensures)

pub returns : goal.returns
returns c = let at = c.loop-k in gathers_all (rw (lines_out _ at.k c.loop-k-test.false) at at.invariant.1)

use Rattle.trace.specs.Items.{items, words}
use Rattle.trace_list.specs.ListerLines.{item_lines}
use Rattle.trace_list.specs.ListerPartsMirror.{GoodStart}
use Rattle.console.specs.GatheringLaws.{Gathering}
use mathlib.Core.Path.{◌≡◌}
use lib.ListN.{length}
use Rattle.walk.specs.WalkRestLaws.{rest}
use Rattle.trace_list.proofs.write_walk.Given as goal

abbrev pub invariant-loop-item : goal.invariant-loop-item
invariant-loop-item l = (length l.text ≡ length l.initial.text) × GoodStart l.cursor.start
    × Gathering l.initial.text (item_lines (words (items l.trace))) l.text l.at (item_lines (words (rest l.trace l.cursor)))

abbrev pub decreases-loop-item : goal.decreases-loop-item
decreases-loop-item l = length (rest l.trace l.cursor)

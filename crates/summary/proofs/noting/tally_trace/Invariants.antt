-- The loop's invariant: the rows are the tally of the items before cycle i, the entries those of the cycles before it, and judging from cycle i on
-- is judging the trace.
use mathlib.Core.Path.{◌≡◌}
use lib.ListN.{length}
use lib.Seq.{sets}
use Rattle.cycle.specs.Cycle.{carried_into}
use Rattle.trace.specs.Items.{items_before}
use Rattle.index.specs.Index.{entry_count, first_entries}
use Rattle.summary.specs.PassLaws.{Judging}
use Rattle.summary.specs.TallyMirror.{Tallied}
use Rattle.summary.proofs.noting.tally_trace.Given as goal

abbrev pub invariant-loop-i : goal.invariant-loop-i
invariant-loop-i l = (l.carried ≡ carried_into l.trace l.i) × (l.items ≡ length (items_before l.trace l.i)) × Tallied (items_before l.trace l.i) l.noted
    × (l.entries ≡ sets l.initial.entries 0 (first_entries l.trace (entry_count l.i))) × Judging l.trace l.i l.carried

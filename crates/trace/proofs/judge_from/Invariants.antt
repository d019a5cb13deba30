-- The loop's invariant: the items counted and those from cycle i on are all, and judging from cycle i on is judging from the first on.
use mathlib.Core.Path.{◌≡◌}
use Prim.Native.Nat.{◌+◌, ◌-◌}
use lib.ListN.{length}
use Rattle.trace.specs.Items.{items_to_end}
use Rattle.trace.specs.TraceReading.{counted, earliest, ends_inside, reading_from}
use Rattle.trace.proofs.judge_from.Given as goal

abbrev pub invariant-loop-i : goal.invariant-loop-i
invariant-loop-i l = (l.items + length (items_to_end l.trace l.i l.carried) ≡ length (items_to_end l.trace l.from l.initial.carried))
    × (earliest l.trace l.i l.carried (length l.trace - l.i) (ends_inside (counted (length (items_to_end l.trace l.from l.initial.carried)))) ≡ reading_from l.trace l.from l.initial.carried)

-- The loop's invariant: the step from cycle i on is the step from the place. A place beyond the trace stays.
use mathlib.Core.Path.{◌≡◌}
use Prim.Native.Nat.{◌-◌, ◌≤◌}
use lib.ListN.{length}
use Rattle.std.specs.Prelude.{max}
use Rattle.steps.specs.WalkStep.{step_from}
use Rattle.steps.proofs.find_item.Given as goal

abbrev pub invariant-loop-i : goal.invariant-loop-i
invariant-loop-i l = (step_from l.trace l.start (length l.trace - l.i) l.i l.carried l.past ≡ step_from l.trace l.start (length l.trace - l.initial.i) l.initial.i l.initial.carried l.initial.past)
    × (l.i ≤ max l.initial.i (length l.trace))

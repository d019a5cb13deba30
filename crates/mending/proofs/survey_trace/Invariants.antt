-- The loop's invariant: what the cycles before cycle i come to.
use mathlib.Core.Path.{◌≡◌}
use Rattle.mending.specs.Mending.{found, latest_marker}
use Rattle.mending.specs.MendingMirror.{wiped_before}
use Rattle.mending.proofs.survey_trace.Given as goal

abbrev pub invariant-loop-i : goal.invariant-loop-i
invariant-loop-i l = (l.due ≡ (found l.trace l.i).due) × (l.changed ≡ wiped_before l.trace l.i) × (l.latest ≡ latest_marker l.trace l.i)

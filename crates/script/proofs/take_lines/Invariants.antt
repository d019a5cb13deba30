use Prim.Native.Nat.{◌≤◌, ◌-◌}
use lib.ListN.{length}
use Rattle.scripts.specs.ScriptLaws.{Rests}
use Rattle.script.proofs.take_lines.Given as goal

abbrev pub invariant-loop-from : goal.invariant-loop-from
invariant-loop-from l = (l.gone.end ≤ length l.text) × Rests l.script l.initial.gone l.initial.text l.initial.memory l.from l.gone l.text l.memory

abbrev pub decreases-loop-from : goal.decreases-loop-from
decreases-loop-from l = length l.script - l.from

use Prim.Native.Nat.{◌+◌, ◌-◌, ◌≤◌}
use mathlib.Core.Path.{◌≡◌}
use lib.ListN.{length}
use Rattle.answers.specs.Bench.{left}
use Rattle.waits_lines.specs.WaitsLinesLaws.{Rests}
use Rattle.waits_lines.proofs.take_lines.Given as goal

abbrev pub invariant-loop-from : goal.invariant-loop-from
invariant-loop-from l = (length l.memory ≡ length l.initial.memory) × (length l.text ≡ length l.initial.text) × (l.from ≤ length l.input + 1) × (l.packets ≤ 0xFFFFFFFFFFFFFFFF) × Rests l.input (left l.initial.b l.initial.memory) l.initial.text l.from (left l.b l.memory) l.at l.packets l.text

abbrev pub decreases-loop-from : goal.decreases-loop-from
decreases-loop-from l = length l.input - l.from

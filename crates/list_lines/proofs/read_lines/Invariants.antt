-- The loop's invariant: the lines from line k on, and those before, are all of them.
use mathlib.Core.Path.{◌≡◌}
use Prim.Native.Nat.{◌≤◌}
use lib.ListN.{length}
use Rattle.list_lines.specs.ListLinesLaws.{Remaining}
use Rattle.list_lines.proofs.read_lines.Given as goal

abbrev pub invariant-loop-k : goal.invariant-loop-k
invariant-loop-k l = (l.at ≤ length l.bytes) × (length l.list ≡ length l.initial.list) × Remaining l.bytes l.count l.initial.list l.list l.at l.k

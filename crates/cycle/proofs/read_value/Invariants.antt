-- The loop's invariant: the nibbles from place k on make v. A value with a nibble to come leaves room for it.
use mathlib.Core.Path.{◌≡◌}
use Prim.Native.Nat.{◌+◌, ◌-◌}
use Rattle.cycle.specs.Cycle.{value}
use Rattle.cycle.proofs.read_value.Given as goal

abbrev pub invariant-loop-k : goal.invariant-loop-k
invariant-loop-k l = l.v ≡ value l.trace (l.from + l.k) (l.n - l.k)

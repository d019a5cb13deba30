-- The loop's invariant: what the bytes from place i on come to is what all of them come to.
use mathlib.Core.Path.{◌≡◌}
use Prim.Native.Nat.{◌≤◌}
use lib.ListN.{drop}
use Rattle.list_lines.specs.ListLines.{digits}
use Rattle.list_lines.proofs.read_digits.Given as goal

abbrev pub invariant-loop-i : goal.invariant-loop-i
invariant-loop-i l = (l.value ≤ l.most) × (digits l.most l.end l.value l.i (drop l.i l.bytes) ≡ digits l.most l.end 0 0 l.bytes)

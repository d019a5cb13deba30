-- The loop's invariant: what the bytes from place i on come to, after those before it, is what the word comes to.
use Prim.Native.Nat.{◌≤◌}
use mathlib.Core.Path.{◌≡◌}
use lib.ListN.{drop}
use Rattle.trace_list.specs.Asked.{decimal}
use Rattle.trace_list.proofs.asked.read_decimal.Given as goal

abbrev pub invariant-loop-byte : goal.invariant-loop-byte
invariant-loop-byte l = (l.number ≤ 0xFFFFFFFF) × (decimal l.number (drop l.byte-index l.word) ≡ decimal 0 l.word)

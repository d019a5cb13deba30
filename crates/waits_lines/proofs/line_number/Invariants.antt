use Prim.Native.Nat.{◌+◌, ◌≤◌}
use mathlib.Core.Path.{◌≡◌}
use lib.ListN.{drop}
use Rattle.waits_lines.specs.WaitsLines.{numbered, line_number}
use Rattle.waits_lines.proofs.line_number.Given as goal

abbrev pub invariant-loop-byte : goal.invariant-loop-byte
invariant-loop-byte l = (l.n ≤ l.byte-index + 1) × (numbered l.n l.after_cr (drop l.byte-index l.before) ≡ line_number l.before)

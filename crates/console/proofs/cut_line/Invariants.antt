use Prim.Native.Nat.{◌+◌, ◌≤◌}
use mathlib.Core.Path.{◌≡◌}
use lib.ListN.{length, take, drop}
use Rattle.console.specs.InputLines.{first_line, has_ended}
use Rattle.console.specs.Holding.{held_on}
use Rattle.console.proofs.cut_line.Given as goal

abbrev pub invariant-loop-i : goal.invariant-loop-i
invariant-loop-i l = record {
  within : l.held ≤ length l.line;
  ended : has_ended l.bytes ≡ has_ended (drop l.i l.bytes);
  taken : length (first_line l.bytes) ≡ l.i + length (first_line (drop l.i l.bytes));
  held : held_on (length l.initial.line) (take l.before l.initial.line) (first_line l.bytes) ≡ held_on (length l.initial.line) (take l.held l.line) (first_line (drop l.i l.bytes));
  more : l.before ≤ l.held;
  rest : drop l.held l.line ≡ drop l.held l.initial.line;
}

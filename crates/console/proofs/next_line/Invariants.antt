use Prim.Native.Nat.{◌-◌, ◌≤◌}
use Rattle.console.specs.LineReading.{unread_of}
use Rattle.console.specs.LineReadingLaws.{Reading}
use Rattle.console.proofs.next_line.Given as goal

abbrev pub invariant-loop : goal.invariant-loop
invariant-loop l = (l.initial.held ≤ l.held) × Reading l.initial.line (unread_of l.initial.source l.at l.end) l.line l.held (18446744073709551615 - l.counter)

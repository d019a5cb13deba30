use Prim.Native.Nat.{◌-◌}
use Rattle.console.specs.LineReading.{unread_of}
use Rattle.gateway.specs.Visiting.{standing}
use Rattle.gateway.specs.VisitingLaws.{Came}
use Rattle.gateway.proofs.take_lines.Given as goal

abbrev pub invariant-loop : goal.invariant-loop
invariant-loop l =
    Came (unread_of l.initial.source l.initial.unread.at l.initial.unread.end) (standing l.initial.visit l.initial.notes) l.initial.packet (0xFFFFFFFFFFFFFFFF - l.counter) (unread_of l.source l.unread.at l.unread.end) (standing l.visit l.notes) l.packet

use Prim.Native.Nat.{◌-◌}
use Rattle.course.specs.Course.{opening}
use Rattle.console.specs.LineReading.{unread_of}
use Rattle.course.proofs.CourseLaws.{Came}
use Rattle.conversation.proofs.run.Given as goal

abbrev pub invariant-loop : goal.invariant-loop
invariant-loop l =
    Came l.language (unread_of l.initial.source l.initial.unread.at l.initial.unread.end) opening l.initial.memory l.initial.text (0xFFFFFFFFFFFFFFFF - l.counter) (unread_of l.source l.unread.at l.unread.end) l.bench l.memory l.text

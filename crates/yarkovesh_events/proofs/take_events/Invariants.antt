-- The loop's invariant: the answers from event i on, put at i, make of the buffer what all of them make of it as given.
use Prim.Native.Nat.{◌*◌}
use mathlib.Core.Path.{◌≡◌}
use lib.ListN.{length, drop}
use lib.Seq.{sets}
use Rattle.yarkovesh_events.specs.ExportedEvents.{events_of, answers_to}
use Rattle.yarkovesh_events.proofs.take_events.Given as goal

abbrev pub invariant-loop-i : goal.invariant-loop-i
invariant-loop-i l = (length l.answers ≡ length l.initial.answers)
    × (sets l.answers l.i (answers_to (events_of (drop (l.i * 4) l.words)) l.board l.place) ≡ sets l.initial.answers 0 (answers_to (events_of l.words) l.initial.board l.place))

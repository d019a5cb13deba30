use Rattle.yarkovesh_events.specs.ExportedEventsLaws.{events_counted, taken_meets, short_meets}
use Rattle.yarkovesh_events.proofs.yarkovesh_events.Goals as goal

pub returns-then-answers-events : goal.returns-then-answers-events
returns-then-answers-events c = rw c.number_of.ensures (short_meets _ _ _ c.if-answers-events.true)

pub take_events-requires : goal.take_events-requires
take_events-requires c = rw (events_counted c.args.events.now) c.if-answers-events.false

pub returns : goal.returns
returns c = taken_meets _ _ _ c.if-answers-events.false c.make-made.ensures c.set_up.ensures c.take_events.ensures

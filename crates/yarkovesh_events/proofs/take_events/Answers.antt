use native.Mathlib.Omega.{arith}
use mathlib.Core.Path.{sym, ◌∙◌}
use lib.ListN.{length-set}
use Rattle.yarkovesh_events.specs.ExportedEventsLaws.{level_at_most_2, events_counted, answers_on, answers_out}
use Rattle.yarkovesh_events.proofs.take_events.Goals as goal

pub word_of-requires : goal.word_of-requires
word_of-requires c = rw c.take_event-taken.ensures.answer (level_at_most_2 _ _ _)

pub bounds-answers-i : goal.bounds-answers-i
bounds-answers-i c = omega (arith, events_counted c.args.words.now)

pub loop-i-preserved : goal.loop-i-preserved
loop-i-preserved c = let at = c.loop-i in
    let args = c.args in
    let taken = c.take_event-taken in
    let on = answers_on args.words.now at.answers at.i at.board args.place taken.result.outcome c.loop-i-test.true c.read_event.ensures c.word_of.ensures taken.ensures.answer taken.ensures.board in
    (simp length-set at.invariant.0, on ∙ at.invariant.1)

pub returns : goal.returns
returns c = sym (answers_out _ _ _ _ _ c.loop-i-test.false) ∙ c.loop-i.invariant.1

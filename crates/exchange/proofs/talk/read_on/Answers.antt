use mathlib.Core.Path.{refl, sym, ap, ◌∙◌}
use native.Mathlib.Omega.{arith}
use Rattle.board.specs.State.{state_of}
use Rattle.step.specs.Step.{stepped}
use Rattle.round_trip.proofs.UnderwayLaws.{talk_begins, talk_goes_on, talk_is_closed, sent_clear}
use Rattle.exchange.proofs.talk.read_on.Goals as goal

pub loop-request-init : goal.loop-request-init
loop-request-init c = (refl, talk_begins c.requires.0 c.requires.2)

pub send-sent-requires : goal.send-sent-requires
send-sent-requires c = let at = c.loop-request in
    let word = c.word_at-word.ensures ∙ c.requires.3 at.packets in
    (at.invariant.1.sound, rw word (sent_clear c.args.request at.packets c.requires.1))

pub overflow_add-packets : goal.overflow_add-packets
overflow_add-packets c = omega (arith, c.loop-request.invariant.1.within)

pub loop-request-smaller : goal.loop-request-smaller
loop-request-smaller c = let more = sym c.is_done.ensures ∙ c.loop-request-test.true in
    omega (arith, (talk_goes_on c.loop-request.invariant.1 more).within)

pub loop-request-preserved : goal.loop-request-preserved
loop-request-preserved c = let at = c.loop-request in
    let sent = c.send-sent in
    let more = sym c.is_done.ensures ∙ c.loop-request-test.true in
    let word = c.word_at-word.ensures ∙ c.requires.3 at.packets in
    let read = rw (c.kind_of.ensures, sent.ensures.0) at c.take_reply-reader.ensures in
    let left = sent.ensures.1 ∙ ap (stepped (state_of at.board at.place at.memory)) word in
    (sent.auto.memory ∙ at.invariant.0, rw (read, left) (talk_goes_on at.invariant.1 more))

pub shape_of-memory : goal.shape_of-memory
shape_of-memory c = c.loop-request.invariant.0

pub returns : goal.returns
returns c = talk_is_closed c.loop-request.invariant.1 (sym c.is_done.ensures ∙ c.loop-request-test.false)

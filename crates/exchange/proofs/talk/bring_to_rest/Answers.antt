use mathlib.Core.Path.{refl, sym, ◌∙◌}
use native.Mathlib.Omega.{arith}
use Rattle.round_trip.proofs.UnderwayLaws.{rest_begins, rest_goes_on, rest_is_reached}
use Rattle.exchange.proofs.talk.bring_to_rest.Goals as goal

pub loop-memory-init : goal.loop-memory-init
loop-memory-init c = (refl, rest_begins c.requires)

pub send-sent-requires : goal.send-sent-requires
send-sent-requires c = (c.loop-memory.invariant.1.sound, omega arith)

pub overflow_add-nops : goal.overflow_add-nops
overflow_add-nops c = omega (arith, c.loop-memory.invariant.1.within)

pub loop-memory-smaller : goal.loop-memory-smaller
loop-memory-smaller c = let more = sym c.is_resting.ensures ∙ c.loop-memory-test.true in
    omega (arith, (rest_goes_on c.loop-memory.invariant.1 more).within)

pub loop-memory-preserved : goal.loop-memory-preserved
loop-memory-preserved c = let at = c.loop-memory in
    let sent = c.send-sent in
    let more = sym c.is_resting.ensures ∙ c.loop-memory-test.true in
    (sent.auto.memory ∙ at.invariant.0, rw sent.ensures.1 (rest_goes_on at.invariant.1 more))

pub shape_of-memory : goal.shape_of-memory
shape_of-memory c = c.loop-memory.invariant.0

pub returns : goal.returns
returns c = rest_is_reached c.loop-memory.invariant.1 (sym c.is_resting.ensures ∙ c.loop-memory-test.false)

use mathlib.Core.Path.{sym, ap, ◌∙◌}
use Rattle.board.specs.State.{state_of}
use Rattle.exchange.specs.Exchange.{told_exchange}
use Rattle.exchange.specs.TypedLaws.{typed_is_sound}
use Rattle.exchange.specs.ExchangeLaws.{accepted_is_within}
use Rattle.exchange.proofs.exchange.Goals as goal

pub rest_and_converse-requires : goal.rest_and_converse-requires
rest_and_converse-requires c = let at = c.args in
    let accepted = sym c.judge_exchange.ensures ∙ c.in-Ok.is in
    let within = accepted_is_within at.request (state_of at.board at.place at.memory.now) accepted in
    (typed_is_sound c.note_types.ensures within.state within.memory, within.asked)

pub returns-in-Ok : goal.returns-in-Ok
returns-in-Ok c = let accepted = sym c.judge_exchange.ensures ∙ c.in-Ok.is in
    let met = c.rest_and_converse.ensures in
    record { answer = rw accepted (ap told_exchange met.0); state = rw accepted met.1 }

pub returns-in-Err : goal.returns-in-Err
returns-in-Err c = let refused = sym c.judge_exchange.ensures ∙ c.in-Err.is in record { answer = rw refused; state = rw refused }

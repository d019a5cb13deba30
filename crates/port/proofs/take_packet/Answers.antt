use mathlib.Core.Path.{sym, ◌∙◌}
use Rattle.port.proofs.take_packet.Goals as goal

pub returns-in-Ok : goal.returns-in-Ok
returns-in-Ok c = let accepted = sym c.judge_packet.ensures ∙ c.in-Ok.is in
    record { answer = rw (accepted, ← c.reply_of-reply.ensures); state = rw accepted c.take_word-next.ensures }

pub returns-in-Err : goal.returns-in-Err
returns-in-Err c = let refused = sym c.judge_packet.ensures ∙ c.in-Err.is in record { answer = rw refused; state = rw refused }

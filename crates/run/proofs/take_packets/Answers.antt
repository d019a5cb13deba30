use mathlib.Core.Path.{sym, ap, ◌∙◌}
use Rattle.grounds.specs.Grounds.{told}
use Rattle.run.specs.RunLaws.{accepted_has_room, written_whole}
use Rattle.run.proofs.take_packets.Goals as goal

pub take_words-next-requires : goal.take_words-next-requires
take_words-next-requires c = accepted_has_room _ _ _ (sym c.judge_run-verdict.ensures ∙ c.in-Ok.is)

pub returns-in-Ok : goal.returns-in-Ok
returns-in-Ok c = let judged = c.judge_run-verdict.ensures in let accepted = sym judged ∙ c.in-Ok.is in
    let next = c.take_words-next.ensures in record { answer = ap told judged; state = rw accepted next.0; answers = rw accepted (next.1 ∙ written_whole _ _ _ (accepted_has_room _ _ _ accepted)) }

pub returns-in-Err : goal.returns-in-Err
returns-in-Err c = let judged = c.judge_run-verdict.ensures in let refused = sym judged ∙ c.in-Err.is in record { answer = ap told judged; state = rw refused; answers = rw refused }

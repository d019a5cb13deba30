use mathlib.Core.Path.{ap, ◌∙◌}
use Rattle.board.specs.State.{state_of}
use Rattle.step.specs.Step.{stepped}
use Rattle.sound.specs.SoundLaws.{packet_keeps_sound}
use Rattle.building.specs.RequestWords.{command_word}
use Rattle.round_trip.specs.TalkMirror.{exchanged, from_command}
use Rattle.round_trip.proofs.UnderwayLaws.{sent_clear, exchange_closes}
use Rattle.exchange.specs.SendingLaws.{built_then_nops}
use Rattle.exchange.proofs.talk.converse.Goals as goal

pub send-sent-requires : goal.send-sent-requires
send-sent-requires c = let words = built_then_nops c.build.ensures c.requires.1 in
    (c.requires.0, rw (words 0) (sent_clear c.args.request 0 c.requires.1))

pub read_on-requires : goal.read_on-requires
read_on-requires c = let at = c.args in
    let words = built_then_nops c.build.ensures c.requires.1 in
    let sent = c.send-sent.ensures.1 ∙ ap (stepped (state_of at.board at.place at.memory.now)) (words 0) in
    let sound = packet_keeps_sound c.requires.0 (command_word at.request) in
    (rw sent sound, c.requires.1, rw sent (exchange_closes at.request c.requires.1 c.requires.0 c.requires.2), words)

pub returns : goal.returns
unfolding exchanged
returns c = let at = c.args in
    let words = built_then_nops c.build.ensures c.requires.1 in
    let sent = c.send-sent.ensures.1 ∙ ap (stepped (state_of at.board at.place at.memory.now)) (words 0) in
    c.read_on.ensures ∙ ap (from_command at.request) sent

use Rattle.grounds.specs.GroundLaws.{number_is_not_zero}
use Rattle.exchange.specs.SendingLaws.{sound_is_sent}
use Rattle.exchange.proofs.talk.send.Goals as goal

pub unreachable-requires : goal.unreachable-requires
unreachable-requires c = let sent = sound_is_sent c.requires.0 c.requires.1 c.take_packet-answer.ensures in
    number_is_not_zero c.in_default.field-0 (rw c.in_default.is at sent.unrefused)

pub returns : goal.returns
returns c = let sent = sound_is_sent c.requires.0 c.requires.1 c.take_packet-answer.ensures in (rw c.in-Ok.is at sent.reply, sent.state)

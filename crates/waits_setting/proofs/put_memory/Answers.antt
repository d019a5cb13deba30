use Rattle.text.specs.TextLaws.{◌then◌}
use Rattle.waits_setting.proofs.put_memory.Goals as goal

pub returns : goal.returns
returns c = rw (c.byte_at.ensures, c.first_other-other.ensures) at
    (c.put_text-to.ensures then (c.put_hex-to.ensures then (c.put_byte-to.ensures then c.put_hex.ensures)))

use Rattle.text.specs.TextLaws.{◌then◌}
use Rattle.page_text.specs.PageTextLaws.{two_halves}
use Rattle.page_text.proofs.lines.put_bits.Goals as goal

pub returns : goal.returns
returns c = rw (two_halves _) at (c.put_hex-at.ensures then c.put_hex.ensures)

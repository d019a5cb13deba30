use Rattle.text.specs.TextLaws.{◌then◌}
use Rattle.page_text.specs.PageTextLaws.{two_places}
use Rattle.page_text.proofs.lines.put_hundredths.Goals as goal

pub returns : goal.returns
returns c = c.put_decimal-at.ensures
    then c.put_byte-at.ensures
    then (rw (two_places _) at (c.put_decimal-at-2.ensures then c.put_decimal.ensures))

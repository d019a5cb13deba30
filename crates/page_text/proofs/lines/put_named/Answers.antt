use Rattle.text.specs.TextLaws.{◌then◌}
use Rattle.page_text.proofs.lines.put_named.Goals as goal

pub returns : goal.returns
returns c = c.put_text-at.ensures
    then c.put_decimal.ensures

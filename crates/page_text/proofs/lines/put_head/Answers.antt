use Rattle.text.specs.TextLaws.{◌then◌}
use Rattle.page_text.proofs.lines.put_head.Goals as goal

pub returns : goal.returns
returns c = c.put_named-at.ensures
    then c.put_named-at-2.ensures
    then c.put_named-at-3.ensures
    then c.end_line.ensures

use Rattle.page_text.specs.PageText.{entry_line}
use Rattle.text.specs.TextLaws.{◌then◌}
use Rattle.page_text.proofs.lines.put_entry.Goals as goal

pub returns : goal.returns
unfolding entry_line
returns c = c.put_named-at.ensures
    then c.put_named-at-2.ensures
    then c.put_transfer-at.ensures
    then c.put_run-at.ensures
    then c.end_line.ensures

use Rattle.text.specs.TextLaws.{◌then◌}
use Rattle.mend_text.proofs.put_list.Goals as goal

pub returns : goal.returns
returns c = c.put_counts-at.ensures then c.put_changes.ensures

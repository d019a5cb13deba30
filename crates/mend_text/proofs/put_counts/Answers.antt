use Rattle.text.specs.TextLaws.{◌then◌}
use Rattle.mend_text.proofs.put_counts.Goals as goal

pub returns : goal.returns
returns c = c.put_text-at.ensures
    then c.put_text-at-2.ensures
    then c.put_decimal-at.ensures
    then c.put_text-at-3.ensures
    then c.put_decimal-at-2.ensures
    then c.put_byte.ensures

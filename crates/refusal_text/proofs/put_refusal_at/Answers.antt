use Rattle.text.specs.TextLaws.{◌then◌}
use Rattle.refusal_text.proofs.put_refusal_at.Goals as goal

pub returns : goal.returns
returns c = c.put_text-at.ensures
    then (rw c.number_of.ensures at c.put_decimal-at.ensures)
    then c.put_text-at-2.ensures
    then c.put_decimal.ensures

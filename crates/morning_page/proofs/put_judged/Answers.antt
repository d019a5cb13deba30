use Rattle.text.specs.TextLaws.{◌then◌}
use Rattle.morning_page.proofs.put_judged.Goals as goal

pub returns : goal.returns
returns c = rw c.if-good.false (c.put_under-at.ensures
    then c.put_text-at.ensures then c.put_text-at-2.ensures
    then c.put_byte.ensures)

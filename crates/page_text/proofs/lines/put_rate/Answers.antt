use Rattle.text.specs.TextLaws.{◌then◌}
use mathlib.Core.Path.{ap, ◌∙◌}
use Rattle.rate.specs.Rate.{rate_bits}
use Rattle.page_text.proofs.lines.put_rate.Goals as goal

pub returns-in-None : goal.returns-in-None
returns-in-None c = rw c.in-None.is c.put_text.ensures

pub returns-in-Some : goal.returns-in-Some
returns-in-Some c = let places = c.count_hundredths.ensures in
    rw c.in-Some.is (c.put_text-at.ensures
    then (rw places at c.put_hundredths-at.ensures)
    then c.put_text-at-in-Some.ensures
    then (rw (c.bits_of.ensures ∙ ap rate_bits c.in-Some.is) at c.put_bits-at.ensures)
    then c.end_line.ensures)

use Rattle.text.specs.TextLaws.{◌then◌}
use Rattle.waits_page.proofs.put_unclear.Goals as goal

-- src/lib.rt:66:1
pub returns : goal.returns
returns c = let number = rw c.line_number.ensures at c.put_decimal-at.ensures in
    c.put_text-at.ensures then (number then c.put_byte.ensures)

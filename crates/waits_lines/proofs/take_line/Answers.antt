use mathlib.Core.Path.{refl}
use Rattle.text.specs.TextLaws.{nothing}
use Rattle.waits_lines.proofs.take_line.Goals as goal

pub returns-in-Board : goal.returns-in-Board
returns-in-Board c = rw c.in-Board.is (c.prepare.ensures, nothing _ _, refl)

pub returns-in-Ask : goal.returns-in-Ask
returns-in-Ask c = let asked = c.ask-asked.ensures in
    rw c.in-Ask.is (asked.1, rw (← asked.0) c.put_row.ensures, rw (← asked.0) c.packets_in.ensures)

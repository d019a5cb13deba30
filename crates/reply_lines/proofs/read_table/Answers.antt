use Rattle.reply_lines.proofs.read_table.Goals as goal

pub returns : goal.returns
returns c = rw (← c.read_number.ensures, ← c.read_number-2.ensures, c.table_of.ensures)

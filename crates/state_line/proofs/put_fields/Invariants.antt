use lib.ListN.{drop}
use Rattle.text.specs.TextLaws.{Remains}
use Rattle.state_line.specs.StateTextMirror.{form_text}
use Rattle.state_line.proofs.put_fields.Given as goal

abbrev pub invariant-loop-mark : goal.invariant-loop-mark
invariant-loop-mark l = Remains l.initial.text l.at (form_text l.form l.first l.values) l.text l.put.at (form_text (drop l.mark-index l.form) l.put.next l.values)

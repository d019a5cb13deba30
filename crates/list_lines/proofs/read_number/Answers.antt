use borrow.Author.Tests.{eqb-true, eqb-false}
use mathlib.Core.Path.{sym, ◌∙◌}
use Rattle.list_lines.specs.ListLinesLaws.{no_digit, ended_at_once, some_digits}
use Rattle.list_lines.proofs.read_number.Goals.{then-is_empty-via-then-is_empty, then-is_empty-via-else-is_empty+then-bytes-end}
use Rattle.list_lines.proofs.read_number.Goals as goal

pub returns-then-is_empty : goal.returns-then-is_empty
returns-then-is_empty c = elim c.then-is_empty.branch [
  | then-is_empty-via-then-is_empty w ↦ sym (no_digit _ _ _ (eqb-true _ _ (sym c.is_empty.ensures ∙ w.if-is_empty.true)))
  | then-is_empty-via-else-is_empty+then-bytes-end w ↦ sym (ended_at_once _ _ _ (eqb-false _ _ (sym c.is_empty.ensures ∙ w.if-is_empty.false)) w.if-bytes-end.true)
]

pub returns : goal.returns
returns c = c.read_digits.ensures ∙ sym (some_digits _ _ _ (eqb-false _ _ (sym c.is_empty.ensures ∙ c.if-is_empty.false)) c.if-bytes-end.false)

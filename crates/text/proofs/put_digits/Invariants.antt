use Rattle.text.specs.TextLaws.{Remains}
use Rattle.text.specs.NumberText.{digits_text}
use Rattle.text.proofs.put_digits.Given as goal

abbrev pub invariant-loop-left : goal.invariant-loop-left
invariant-loop-left l = Remains l.initial.text l.at (digits_text l.base l.digits l.value) l.text l.to (digits_text l.base l.left l.value)

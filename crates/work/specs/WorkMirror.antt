-- The code's way to a value's result words: their number is the table's.
use Rattle.std.specs.Prelude.{cond, eqb, None, Option, Some, ℕ}
use Rattle.command.specs.declared.Command.{Command}
use Rattle.command.specs.Command.{result_words}
use Rattle.work.specs.declared.Ending.{Ending}
use Rattle.work.specs.declared.Ending.TheVariants.{Failed, OneWord, TwoWords}

abbrev pub value_ending : Command → Option ℕ → Ending
value_ending c (Some v) = cond (eqb (result_words c) 1) (OneWord v) (TwoWords v)
value_ending c None = Failed

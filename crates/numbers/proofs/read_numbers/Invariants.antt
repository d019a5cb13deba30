use Rattle.std.proofs.Common.{◌≡◌}
use Rattle.words.specs.LineWords.{words_from}
use Rattle.words.specs.WordSteps.{words_left}
use Rattle.numbers.specs.Numbers.{gathered, numbers}
use Rattle.numbers.proofs.read_numbers.Given as goal

abbrev pub invariant-loop-word : goal.invariant-loop-word
invariant-loop-word l = numbers (words_from l.line l.from) ≡ gathered l.numbers (words_left l.word-iterator)

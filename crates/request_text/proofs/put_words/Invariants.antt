use lib.ListN.{drop}
use Rattle.text.specs.TextLaws.{Remains}
use Rattle.request_text.specs.RequestText.{each_word}
use Rattle.request_text.proofs.put_words.Given as goal

abbrev pub invariant-loop-word : goal.invariant-loop-word
invariant-loop-word l = Remains l.initial.text l.initial.at (each_word l.words) l.text l.at (each_word (drop l.word-index l.words))

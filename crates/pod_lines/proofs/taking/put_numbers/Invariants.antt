use Rattle.std.proofs.Common.{◌≡◌, ◌≤◌, ◌+◌, true, length}
use Rattle.std.proofs.lemmas.List.Edits.{sets}
use Rattle.words.specs.WordSteps.{words_left}
use Rattle.pod_lines.specs.Taking.{all_numerals, values}
use Rattle.pod_lines.proofs.taking.put_numbers.Given as goal

abbrev pub invariant-loop-word : goal.invariant-loop-word
invariant-loop-word l = record {
  numerals : all_numerals (words_left l.word-iterator) ≡ true;
  room : l.count + length (words_left l.word-iterator) ≤ length l.buffer;
  put : sets l.initial.buffer 0 (values (words_left l.words)) ≡ sets l.buffer l.count (values (words_left l.word-iterator));
}

use Rattle.std.proofs.Common.{◌≡◌, ◌≤◌}
use Rattle.words.specs.WordSteps.{words_left}
use Rattle.pod_lines.specs.Taking.{counted}
use Rattle.pod_lines.specs.TakingLaws.{counted_from}
use Rattle.pod_lines.proofs.taking.count_numbers.Given as goal

abbrev pub invariant-loop-word : goal.invariant-loop-word
invariant-loop-word l = record {
  line : l.word-iterator.line ≡ l.words.line;
  few : l.count ≤ l.word-iterator.at;
  counts : counted (words_left l.words) ≡ counted_from l.count (words_left l.word-iterator);
}

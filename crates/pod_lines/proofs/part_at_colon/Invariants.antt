use Rattle.std.proofs.Common.{◌≡◌, length}
use Rattle.words.specs.WordSteps.{words_left}
use Rattle.numbers.specs.Numbers.{numbers, gathered}
use Rattle.pod_lines.specs.PodLines.{before_colon, after_colon}
use Rattle.pod_lines.proofs.part_at_colon.Given as goal

abbrev pub invariant-loop-word : goal.invariant-loop-word
invariant-loop-word l = record {
  line : l.words.line ≡ l.fn.words.line;
  numbers : numbers (before_colon (words_left l.fn.words)) ≡ gathered l.numbers (before_colon (words_left l.words));
  behind : after_colon (words_left l.fn.words) ≡ after_colon (words_left l.words);
}

abbrev pub decreases-loop-word : goal.decreases-loop-word
decreases-loop-word l = length (words_left l.words)

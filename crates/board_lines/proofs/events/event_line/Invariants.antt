use Rattle.std.proofs.Common.{◌≡◌, length}
use Rattle.words.specs.WordSteps.{words_left}
use Rattle.board_lines.specs.EventLines.{event_from, event_line}
use Rattle.board_lines.proofs.events.event_line.Given as goal

abbrev pub invariant-loop-word : goal.invariant-loop-word
invariant-loop-word l = event_line (words_left l.fn.words) ≡ event_from l.before (words_left l.words)

abbrev pub decreases-loop-word : goal.decreases-loop-word
decreases-loop-word l = length (words_left l.words)

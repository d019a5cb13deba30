-- The loop's invariant: the lines from word k on, put here, are all of them put from the start.
use mathlib.Core.Path.{◌≡◌}
use lib.ListN.{length, drop}
use Rattle.text.specs.TextLaws.{Remains}
use Rattle.mend_text.specs.MendText.{change_lines}
use Rattle.mend_text.proofs.put_changes.Given as goal

abbrev pub invariant-loop-word : goal.invariant-loop-word
invariant-loop-word l = (length l.text ≡ length l.initial.text) × Remains l.initial.text l.from (change_lines l.words) l.text l.at (change_lines (drop l.word-index l.words))

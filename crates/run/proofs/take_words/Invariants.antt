use lib.ListN.{length, drop}
use mathlib.Core.Path.{◌≡◌}
use Rattle.board.specs.State.{state_of}
use Rattle.step.specs.Step.{reply_now}
use Rattle.run.specs.Run.{ran}
use Rattle.run.specs.RunMirror.{written}
use Rattle.run.proofs.take_words.Given as goal

abbrev pub invariant-loop-i : goal.invariant-loop-i
invariant-loop-i l = (length l.memory ≡ length l.initial.memory)
    × (length l.replies ≡ length l.initial.replies)
    × (ran (drop l.i l.words) (state_of l.b l.p l.memory) ≡ ran l.words (state_of l.initial.b l.initial.p l.initial.memory))
    × (written (drop l.i l.words) l.i (state_of l.b l.p l.memory) l.replies ≡ written l.words 0 (state_of l.initial.b l.initial.p l.initial.memory) l.initial.replies)
    × (l.reply ≡ reply_now l.p)

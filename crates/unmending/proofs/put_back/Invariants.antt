-- The loop's invariant: the words from word k on, put back here, make what all of them make of the trace as given.
use mathlib.Core.Path.{◌≡◌}
use lib.ListN.{length, drop}
use Rattle.unmending.specs.Unmending.{put_back}
use Rattle.unmending.proofs.put_back.Given as goal

abbrev pub invariant-loop-word : goal.invariant-loop-word
invariant-loop-word l = (length l.trace ≡ length l.initial.trace) × (put_back l.trace (drop l.word-index l.list) ≡ put_back l.initial.trace l.list)

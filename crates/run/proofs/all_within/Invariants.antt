use lib.ListN.{drop}
use mathlib.Core.Path.{◌≡◌}
use mathlib.Core.Bool.{◌&&◌}
use Rattle.run.specs.Run.{all_within}
use Rattle.run.proofs.all_within.Given as goal

abbrev pub invariant-loop-word : goal.invariant-loop-word
invariant-loop-word l = (l.within && all_within (drop l.word-index l.words)) ≡ all_within l.words

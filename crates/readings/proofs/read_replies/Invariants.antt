use mathlib.Core.Path.{◌≡◌}
use lib.ListN.{drop}
use Rattle.readings.specs.Reading.{reading_of}
use Rattle.readings.specs.ReaderLaws.{reading_from}
use Rattle.readings.proofs.read_replies.Given as goal

abbrev pub invariant-loop-used : goal.invariant-loop-used
invariant-loop-used l = reading_from l.kind l.reader l.used (drop l.used l.replies) ≡ reading_of l.kind l.replies

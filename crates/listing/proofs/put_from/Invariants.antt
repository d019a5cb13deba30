-- The loop's invariant: the words from cycle i on, put at `at`, make of the buffer what all of them make of it as given.
use mathlib.Core.Path.{◌≡◌}
use Prim.Native.Nat.{◌+◌}
use lib.ListN.{length}
use lib.Seq.{sets}
use Rattle.trace.specs.Items.{items_to_end, words}
use Rattle.listing.proofs.put_from.Given as goal

abbrev pub invariant-loop-i : goal.invariant-loop-i
invariant-loop-i l = (length l.out ≡ length l.initial.out)
    × (l.at + length (words (items_to_end l.trace l.i l.carried)) ≡ length (words (items_to_end l.trace l.from l.initial.carried)))
    × (sets l.out l.at (words (items_to_end l.trace l.i l.carried)) ≡ sets l.initial.out 0 (words (items_to_end l.trace l.from l.initial.carried)))

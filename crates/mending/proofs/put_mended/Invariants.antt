-- The loop's invariant: both buffers have what the cycles before cycle i come to.
use mathlib.Core.Path.{◌≡◌}
use lib.ListN.{length}
use lib.Seq.{sets}
use Rattle.mending.specs.Mending.{found, mended_pst, retold, changes_before}
use Rattle.mending.proofs.put_mended.Given as goal

abbrev pub invariant-loop-i : goal.invariant-loop-i
invariant-loop-i l = (l.due ≡ (found l.trace l.i).due)
    × (l.at ≡ length (changes_before l.trace l.i))
    × (l.bytes ≡ sets l.initial.bytes 0 (retold (mended_pst l.trace) l.trace l.i))
    × (l.list ≡ sets l.initial.list 0 (changes_before l.trace l.i))

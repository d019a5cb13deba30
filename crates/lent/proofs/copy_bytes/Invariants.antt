use lib.Seq.{sets}
use mathlib.Core.Path.{◌≡◌}
use Rattle.lent.specs.Lent.{bytes_from}
use Rattle.lent.proofs.copy_bytes.Given as goal

abbrev pub invariant-loop-i : goal.invariant-loop-i
invariant-loop-i l = l.memory ≡ sets l.initial.memory l.to (bytes_from l.line l.start l.i)

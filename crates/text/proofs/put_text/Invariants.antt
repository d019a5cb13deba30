use lib.ListN.{drop}
use Rattle.text.specs.TextLaws.{Remains}
use Rattle.text.proofs.put_text.Given as goal

abbrev pub invariant-loop-byte : goal.invariant-loop-byte
invariant-loop-byte l = Remains l.initial.text l.at l.part l.text l.to (drop l.byte-index l.part)

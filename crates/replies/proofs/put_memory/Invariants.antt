use Prim.Native.Nat.{◌+◌, ◌-◌}
use Rattle.text.specs.TextLaws.{Remains}
use Rattle.replies.specs.ReplyText.{bytes_text}
use Rattle.replies.proofs.put_memory.Given as goal

abbrev pub invariant-loop-i : goal.invariant-loop-i
invariant-loop-i l = Remains l.initial.text l.at (bytes_text l.memory l.from l.count) l.text l.to (bytes_text l.memory (l.from + l.i) (l.count - l.i))

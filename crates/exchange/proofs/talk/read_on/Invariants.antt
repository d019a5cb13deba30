use Prim.Native.Nat.{◌+◌, ◌-◌}
use mathlib.Core.Path.{◌≡◌}
use lib.ListN.{length}
use Rattle.board.specs.State.{state_of}
use Rattle.round_trip.specs.TalkMirror.{talk_budget}
use Rattle.round_trip.proofs.UnderwayLaws.{TalkUnderway}
use Rattle.exchange.proofs.talk.read_on.Given as goal

abbrev pub invariant-loop-request : goal.invariant-loop-request
invariant-loop-request l = (length l.memory ≡ length l.initial.memory) × TalkUnderway l.request l.packets l.reader (state_of l.board l.place l.memory) (state_of l.initial.board l.initial.place l.initial.memory)

abbrev pub decreases-loop-request : goal.decreases-loop-request
decreases-loop-request l = talk_budget + 1 - l.packets

use Prim.Native.Nat.{◌-◌}
use mathlib.Core.Path.{◌≡◌}
use lib.ListN.{length}
use Rattle.board.specs.State.{state_of}
use Rattle.round_trip.specs.BroughtToRest.{rest_budget}
use Rattle.round_trip.proofs.UnderwayLaws.{RestUnderway}
use Rattle.exchange.proofs.talk.bring_to_rest.Given as goal

abbrev pub invariant-loop-memory : goal.invariant-loop-memory
invariant-loop-memory l = (length l.memory ≡ length l.initial.memory) × RestUnderway l.nops (state_of l.board l.place l.memory) (state_of l.initial.board l.initial.place l.initial.memory)

abbrev pub decreases-loop-memory : goal.decreases-loop-memory
decreases-loop-memory l = rest_budget - l.nops

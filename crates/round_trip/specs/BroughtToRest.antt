-- Packets (01), and by eye: a board not at rest "is brought to rest first with NOPs, and these are counted".
use Rattle.std.specs.Prelude.{ℕ, zero, suc, ◌+◌, cond}
use Rattle.board.specs.Board.{at_rest}
use Rattle.board.specs.State.{State}
use Rattle.step.specs.Step.{stepped}
use Rattle.requests.specs.declared.Request.{Request}
use Rattle.round_trip.specs.Meaning.{Scene}
use Rattle.round_trip.specs.RoundTrip.{scene_of, packets_there}

-- within a budget
unfoldable pub rested : ℕ → State → State
rested zero s = s
rested (suc k) s = cond (at_rest s.place.phase) s (rested k (stepped s 0))

unfoldable pub rest_nops : ℕ → State → ℕ
rest_nops zero s = 0
rest_nops (suc k) s = cond (at_rest s.place.phase) 0 (suc (rest_nops k (stepped s 0)))

-- 4 + W are enough, and W is at most 15
abbrev pub rest_budget : ℕ
rest_budget = 19

-- what stands there once it is brought to rest, and how many NOPs bring it there
abbrev pub rest_scene : State → Scene
rest_scene s = scene_of (rested rest_budget s)

abbrev pub rest_packets : State → ℕ
rest_packets s = rest_nops rest_budget s

-- all packets of a request from there: the NOPs to rest, and the request's own
abbrev pub packets_from : Request → State → ℕ
packets_from request s = rest_packets s + packets_there request (rest_scene s)

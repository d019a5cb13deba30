-- [10] in packets: the words that the pod's half builds and the NOPs behind them, for a list of requests, and what they come to at each W.
use Rattle.std.specs.Prelude.{ℕ, ◌+◌, ◌*◌, ◌≡◌, true, cond, List, [], ◌∷◌, ◌++◌, map, length}
use Rattle.command.specs.Command.{waits}
use Rattle.command.specs.Reply.{complete}
use Rattle.run.specs.Run.{ran}
use Rattle.requests.specs.declared.Request.{Request}
use Rattle.requests.specs.Request.{in_range}
use Rattle.readings.specs.declared.Outcome.{Outcome}
use Rattle.pod_laws.specs.MeantCommand.{command_of}
use Rattle.round_trip.specs.Meaning.{Scene, meaning}
use Rattle.round_trip.specs.RoundTrip.{resting, scene_of, legal_there, legal_leaves, words_there, Trip}
use Rattle.every_wait.specs.EveryWait.{fresh_at, left_by, Result, results}

-- each request where the one before left the port: what they mean ..
unfoldable pub outcomes : List Request → Scene → List Outcome
outcomes [] s = []
outcomes (request ∷ requests) s = (meaning request s).outcome ∷ outcomes requests (meaning request s).leaves

unfoldable pub meant_by : List Request → Scene → Scene
meant_by [] s = s
meant_by (request ∷ requests) s = meant_by requests (meaning request s).leaves

-- .. and all packets: the built words, W NOPs for a command that waits, one for each closing reply
unfoldable pub words_of : List Request → Scene → List ℕ
words_of [] s = []
words_of (request ∷ requests) s = words_there request s ++ words_of requests (meaning request s).leaves

abbrev pub LegalThrough : List Request → Scene → Type 0
LegalThrough [] s = Unit {0}
LegalThrough (request ∷ requests) s = (in_range request ≡ true) × (legal_there request s ≡ true) × LegalThrough requests (meaning request s).leaves

-- the pod's half reads each request's replies as its outcome, all of them used and not before the last
abbrev pub Trips : List Request → Scene → Type 0
Trips [] s = Unit {0}
Trips (request ∷ requests) s =
    Trip request (words_there request s) (resting s complete) (meaning request s).outcome (legal_leaves request s) × Trips requests (meaning request s).leaves

-- how many of the requests wait: memory and control-register commands
unfoldable pub waiting : List Request → ℕ
waiting [] = 0
waiting (request ∷ requests) = cond (waits (command_of request)) 1 0 + waiting requests

-- a fresh board and the same memory, as a request finds them
abbrev pub fresh_scene : ℕ → List ℕ → Scene
fresh_scene w m = scene_of (fresh_at w m)

pub record PacketsAt (w : ℕ) (requests : List Request) (m : List ℕ) : Type 0 where
  pub trips : Trips requests (fresh_scene w m)
  -- one run of packets leaves what the exchanges leave, and its outcomes are their results
  pub run : ran (words_of requests (fresh_scene w m)) (fresh_at w m) ≡ left_by requests (fresh_at w m)
  pub results : results requests (fresh_at w m) ≡ map Result.came (outcomes requests (fresh_scene w m))
  -- which are the same at every W
  pub outcomes : outcomes requests (fresh_scene w m) ≡ outcomes requests (fresh_scene 0 m)
  -- what changes: W packets more for each request that waits
  pub number : length (words_of requests (fresh_scene w m)) ≡ length (words_of requests (fresh_scene 0 m)) + w * waiting requests

-- The exchange (01, Packets, and by eye): what its answer says on paper, and the promise: for every input its answer, the board, the place
-- and each byte of memory.
use Rattle.std.specs.Prelude.{ℕ, ◌≡◌, List, Err, Ok, Result, ⊤}
use Rattle.readings.specs.declared.Outcome.{Outcome}
use Rattle.grounds.specs.declared.Ground.{Ground}
use Rattle.grounds.specs.Grounds.{Refusal, no_refusal, refusal_of, if_accepted}
use Rattle.board.specs.State.{State, state_of}
use Rattle.requests.specs.declared.Request.{Request}
use Rattle.readings.specs.Reading.{outcome_reply, outcome_value}
use Rattle.round_trip.specs.RoundTrip.{outcome_there, state_there}
use Rattle.round_trip.specs.BroughtToRest.{rest_scene, packets_from}
use Rattle.exchange.specs.declared.Returned.{Returned}
use Rattle.exchange_verdict.specs.ExchangeVerdict.{exchange_verdict}

-- the request's outcome there, and all packets
abbrev pub ended_there : Request → State → Result (Outcome × ℕ) Ground
ended_there request s = Ok (outcome_there request (rest_scene s), packets_from request s)

abbrev pub answered_as : Result ⊤ Ground → Result (Outcome × ℕ) Ground → Result (Outcome × ℕ) Ground
answered_as (Ok _) ended = ended
answered_as (Err why) ended = Err why

-- what an exchange says on paper: its refusal, the reply of Packets (01) that stands for the outcome (0 for data), the value and the packets sent
pub record ExchangeTold : Type 0 where
  pub refusal : Refusal
  pub reply : ℕ
  pub value : ℕ
  pub packets : ℕ

abbrev pub told_exchange : Result (Outcome × ℕ) Ground → ExchangeTold
told_exchange (Ok (outcome, packets)) = record { refusal = no_refusal; reply = outcome_reply outcome; value = outcome_value outcome; packets = packets }
told_exchange (Err why) = record { refusal = refusal_of why; reply = 0; value = 0; packets = 0 }

-- what the request leaves; "state, memory and result buffers stay as given" where it is refused
abbrev pub exchange_leaves : Request → State → State
exchange_leaves request s = if_accepted (exchange_verdict request s) (state_there request (rest_scene s)) s

pub record ExchangeMeets (request : Request) (s : State) (r : Returned) (after : List ℕ) : Type 0 where
  -- the refusal, or the outcome and the packets sent
  pub answer : told_exchange r.answer ≡ told_exchange (answered_as (exchange_verdict request s) (ended_there request s))
  -- the board, the place and memory
  pub state : state_of r.board r.place after ≡ exchange_leaves request s

-- A gateway's visit (docs/gateway.md), on paper: the meaning of its requests in turn, what they leave and the number of packets, from any state of the port.
use Rattle.std.specs.Prelude.{ℕ, zero, suc, ◌+◌, Bool, true, false, cond, ◌&&◌, ◌||◌, List, [], ◌∷◌}
use Rattle.board.specs.State.{State}
use Rattle.asked.specs.VisitRequests.{registers_asked, request_at, in_table, marked}
use Rattle.requests.specs.declared.Request.{Request}
use Rattle.readings.specs.declared.Outcome.{Outcome}
use Rattle.asked.specs.Marker.{marker_packets}
use Rattle.visit.specs.Visit.{is_illegal, is_bus_error}
use Rattle.round_trip.specs.Meaning.{Scene, meaning}
use Rattle.round_trip.specs.RoundTrip.{unchained, legal_there, outcome_there, packets_there}
use Rattle.round_trip.specs.BroughtToRest.{rest_scene}

pub record Course : Type 0 where
  pub outcomes : List Outcome
  pub packets : ℕ
  pub leaves : Scene

abbrev pub nothing_more : Scene → Course
nothing_more s = record { outcomes = []; packets = 0; leaves = s }

-- a marker first: its illegal word ends the chain and, [4], clears the address that was not there; it leaves all else
abbrev pub behind_marker : (Scene → Course) → Scene → Course
behind_marker rest s = record {
  outcomes = (rest (unchained s)).outcomes;
  packets = marker_packets + (rest (unchained s)).packets;
  leaves = (rest (unchained s)).leaves;
}

abbrev pub behind : Bool → (Scene → Course) → Scene → Course
behind true rest s = behind_marker rest s
behind false rest s = rest s

-- a request with its outcome, and then the rest
abbrev pub noting : Outcome → ℕ → Course → Course
noting o packets rest = record { outcomes = o ∷ rest.outcomes; packets = packets + rest.packets; leaves = rest.leaves }

-- what a request leaves; an illegal word "ends the chain", clears that address and alters nothing else
abbrev pub leaves_there : Request → Scene → Scene
leaves_there request s = cond (legal_there request s) (meaning request s).leaves (unchained s)

abbrev pub ends_table : ℕ → Outcome → Bool
ends_table j o = in_table j && is_bus_error o

-- so many requests from the j-th on, found at rest: each is its meaning there, and what it leaves is found by the next
unfoldable pub course_from : ℕ → ℕ → ℕ → Scene → Course
course_from zero address j s = nothing_more s
course_from (suc left) address j s =
    noting (outcome_there (request_at address j) s) (packets_there (request_at address j) s)
    (cond (ends_table j (outcome_there (request_at address j) s))
    (behind_marker nothing_more (leaves_there (request_at address j) s))
    (behind (is_illegal (outcome_there (request_at address j) s) || marked (suc j + left) (suc j)) (course_from left address (suc j))
    (leaves_there (request_at address j) s)))

-- the whole visit: "a marker", which first brings the port to rest; then what is asked
unfoldable pub course_of : ℕ → ℕ → State → Course
course_of address longwords s = behind_marker (course_from (registers_asked + longwords) address 0) (rest_scene s)

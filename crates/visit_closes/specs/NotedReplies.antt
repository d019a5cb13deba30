-- A gateway's visit (docs/gateway.md) and demand 3: a reply is noted for the request whose result it is, and for no other.
use Rattle.std.specs.Prelude.{ℕ, zero, suc, ◌≡◌, Bool, true, false, cond, List, [], ◌∷◌, ◌++◌, eqb, length}
use Rattle.board.specs.State.{State}
use Rattle.plan.specs.Plan.{legal_word}
use Rattle.step.specs.Step.{reply_now}
use Rattle.building.specs.RequestWords.{command_word, operands}
use Rattle.readings.specs.declared.Reader.{Reader}
use Rattle.readings.specs.declared.Reader.TheVariants.{First, Second, Closed, Bad}
use Rattle.visit.specs.declared.Stage.{Stage}
use Rattle.visit.specs.declared.Stage.TheVariants.{Marking, Asking, AsRead, NotRead}
use Rattle.visit.specs.declared.Visit.{Visit}
use Rattle.visit.specs.Visit.{request_now, reader_after, is_over}
use Rattle.joined.specs.Joined.{Joined, packet_now, onward, joined}
use Rattle.joined.specs.VisitReads.{starts_at}
use Rattle.promises.specs.Machine.{stand_in}
use Rattle.promises.specs.TakenWords.{Word, closing}
use Rattle.promises.specs.TakenWords.Closing.{reply}
use Rattle.promises.specs.History.{Lent, Call, lending, after, finds, made}
use Rattle.promises.specs.RunHistory.{packets_of}
use Rattle.promises.specs.Demand3.{trail_of}

-- the words that a visit sends in its next so many packets; one that is over sends none
unfoldable pub sent_by : ℕ → Joined → List ℕ
sent_by zero j = []
sent_by (suc k) j = cond (is_over j.visit.stage) [] (packet_now j.visit ∷ sent_by k (onward j))

-- ---- a reply that is noted
abbrev pub is_closed : Reader → Bool
is_closed First = false
is_closed (Second upper) = false
is_closed (Closed outcome) = true
is_closed (Bad why) = false

-- with this reply the request that is asked is read to its end
abbrev pub notes_at : Visit → Stage → ℕ → Bool
notes_at v (Marking i) answer = false
notes_at v (Asking sent reader) answer = cond (eqb sent 0) false (is_closed (reader_after v reader answer))
notes_at v AsRead answer = false
notes_at v (NotRead reason) answer = false

-- so does the port's reply to the packet that goes out now
abbrev pub notes_now : Joined → Bool
notes_now j = notes_at j.visit j.visit.stage (reply_now j.port.place)

-- ---- the promise
-- where a visit finds the stand-in: any history of calls leads there, and some memory is lent
abbrev pub found_by_visit : ℕ → List Call → Lent → State
found_by_visit w history m = lending (after stand_in (made w) history) m

-- of packet i of the visit, counted from 0
module _ (w : ℕ) (history : List Call) (m : Lent) (address longwords : ℕ) (notes : List ℕ) (i : ℕ) where
  abbrev pub starts_there : Joined
  starts_there = starts_at address longwords notes (found_by_visit w history m)

  -- where both stand when the packet goes out
  abbrev pub met : Joined
  met = joined i starts_there

  -- the visit's packets before it as calls, each lent the memory that the one before it left
  abbrev pub visit_calls : List Call
  visit_calls = packets_of (found_by_visit w history m) (sent_by i starts_there)

  -- all calls before it: the history, and then the visit's
  abbrev pub calls_before : List Call
  calls_before = history ++ visit_calls

  -- how many command words they took (demand 3): the last of them has this number, counted from 1
  abbrev pub words_before : ℕ
  words_before = length (trail_of stand_in w calls_before).words

  -- A visit is its packets.
  pub record VisitIsItsPackets : Type 0 where
    -- Each of them is accepted.
    pub accepted : length (finds stand_in (found_by_visit w history m) visit_calls) ≡ length (sent_by i starts_there)
    -- They leave the board, the place and each byte of memory that the next packet finds.
    pub port : after stand_in (found_by_visit w history m) visit_calls ≡ met.port
    -- From the fresh board on, the history and they lead to that board and place.
    pub board : (after stand_in (made w) calls_before).board ≡ met.port.board
    pub place : (after stand_in (made w) calls_before).place ≡ met.port.place

  pub record NotedIsClosing : Type 0 where
    -- The port that the packet goes to is where those calls lead to.
    pub port : VisitIsItsPackets
    -- The last command word that they took (demand 3), and those before it:
    pub word : Word
    pub earlier : List Word
    pub last : (trail_of stand_in w calls_before).words ≡ word ∷ earlier
    -- it is the command word of the request that is noted,
    pub command : word.packet ≡ command_word (request_now met.visit)
    -- with that request's operand words, or none where the word was illegal,
    pub sent : word.operands ≡ cond (legal_word word.packet word.standing) (operands (request_now met.visit)) []
    -- and the reply that is noted is that word's closing reply. By demand 3 each word has one, in the order sent.
    pub closes : closing word ≡ reply (reply_now met.port.place)

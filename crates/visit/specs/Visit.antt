-- A gateway's visit (docs/gateway.md): the machine. From its state the next packet to send, and from a reply its next state and what is noted.
use Rattle.std.specs.Prelude.{ℕ, suc, ◌+◌, ◌*◌, ◌%◌, ◌^◌, Bool, true, false, cond, ◌&&◌, ◌||◌, List, [], ◌∷◌, eqb, leb, ltb, get_or, set, Err, Ok, Result, ⊤}
use Rattle.grounds.specs.declared.Ground.{Ground}
use Rattle.command.specs.Reply.{complete, bus_error, illegal}
use Rattle.grounds.specs.declared.Ground.TheVariants.{RequestOutOfRange, BufferTooShort}
use Rattle.grounds.specs.declared.Ground.TheVariants as why
use Rattle.grounds.specs.Grounds.{number, check, judge}
use Rattle.requests.specs.declared.Request.{Request}
use Rattle.requests.specs.Request.{kind_of}
use Rattle.building.specs.RequestWords.{built_words}
use Rattle.readings.specs.declared.Outcome.{Outcome}
use Rattle.readings.specs.declared.Outcome.TheVariants as outcome
use Rattle.readings.specs.declared.Reader.{Reader}
use Rattle.readings.specs.declared.Reader.TheVariants.{First, Second, Closed, Bad}
use Rattle.readings.specs.Reader.{after_reply}
use Rattle.visit.specs.declared.Reason.{Reason}
use Rattle.visit.specs.declared.Reason.TheVariants.{Late, NotReady, NoReply, WordTooLarge, ImpossibleReply}
use Rattle.visit.specs.declared.Stage.{Stage}
use Rattle.visit.specs.declared.Stage.TheVariants.{Marking, Asking, AsRead, NotRead}
use Rattle.visit.specs.declared.Visit.{Visit}
use Rattle.visit.specs.declared.Next.{Next}
use Rattle.visit.specs.declared.Next.TheVariants.{Send, EndsAsRead, EndsNotRead}
use Rattle.asked.specs.VisitRequests.{registers_asked, request_at, in_table, marked}
use Rattle.asked.specs.Marker.{last_at, mark_word, mark_holds}

-- ---- what it is given
-- "an address that is a multiple of 4, and a number of longwords .. at most 65,536; the table ends at 2^32 at the latest"
abbrev pub table_in_range : ℕ → ℕ → Bool
table_in_range address longwords = eqb (address % 4) 0 && (leb longwords 65536 && leb (address + 4 * longwords) (2 ^ 32))

-- a place for each result
abbrev pub start_verdict : ℕ → ℕ → ℕ → Result ⊤ Ground
start_verdict address longwords room =
    judge (check (table_in_range address longwords) RequestOutOfRange ∷ check (leb (registers_asked + longwords) room) BufferTooShort ∷ [])

-- "1. a marker"
abbrev pub begun : ℕ → ℕ → Visit
begun address longwords = record { address = address; ends = registers_asked + longwords; at = 0; packets = 0; stage = Marking 0 }

abbrev pub started_by : Result ⊤ Ground → Visit → Result Visit Ground
started_by (Ok _) v = Ok v
started_by (Err why) v = Err why

abbrev pub start_of : ℕ → ℕ → ℕ → Result Visit Ground
start_of address longwords room = started_by (start_verdict address longwords room) (begun address longwords)

-- ---- the next packet
-- what is asked now
abbrev pub request_now : Visit → Request
request_now v = request_at v.address v.at

-- the request's words, and NOPs after them
abbrev pub packet_by : Visit → Stage → Next
packet_by v (Marking i) = Send (mark_word i)
packet_by v (Asking sent reader) = Send (get_or (built_words (request_now v)) sent 0)
packet_by v AsRead = EndsAsRead
packet_by v (NotRead reason) = EndsNotRead v.packets reason

unfoldable pub next_of : Visit → Next
next_of v = packet_by v v.stage

-- ---- a reply
-- "more than a given number of not ready in a row"
abbrev pub patience : ℕ
patience = 256

-- "Packets count from 1"
abbrev pub counted : ℕ → ℕ
counted packets = cond (ltb packets 0xFFFFFFFF) (suc packets) packets

abbrev pub on_stage : Visit → Stage → Visit
on_stage v stage = record { address = v.address; ends = v.ends; at = v.at; packets = counted v.packets; stage = stage }

-- "It ends as read with the last packet of the last marker"; behind another comes the next request
abbrev pub after_marker : ℕ → ℕ → Stage
after_marker ends at = cond (leb ends at) AsRead (Asking 0 First)

abbrev pub mark_stage : Visit → ℕ → ℕ → Stage
mark_stage v i reply = cond (mark_holds i reply) (cond (ltb i last_at) (Marking (suc i)) (after_marker v.ends v.at)) (NotRead Late)

abbrev pub is_illegal : Outcome → Bool
is_illegal (outcome.Value value) = false
is_illegal outcome.Complete = false
is_illegal outcome.BusError = false
is_illegal outcome.Illegal = true

abbrev pub is_bus_error : Outcome → Bool
is_bus_error (outcome.Value value) = false
is_bus_error outcome.Complete = false
is_bus_error outcome.BusError = true
is_bus_error outcome.Illegal = false

-- the request after the j-th
abbrev pub afterwards : ℕ → ℕ → ℕ
afterwards ends j = cond (ltb j ends) (suc j) j

-- "A bus error in the table .. ends the table"
abbrev pub ends_after : Outcome → ℕ → ℕ → ℕ
ends_after o ends j = cond (in_table j && is_bus_error o) (afterwards ends j) ends

-- "After one that was illegal a marker comes before whatever is next"
abbrev pub stage_after : Outcome → ℕ → ℕ → Stage
stage_after o ends j = cond (is_illegal o || marked ends j) (Marking 0) (Asking 0 First)

-- "In a table, illegal is a reply that the request can't have"
abbrev pub notable : Outcome → ℕ → Bool
notable o j = cond (in_table j && is_illegal o) false true

-- the request is closed with its outcome
unfoldable pub closed_by : Visit → Outcome → Visit
closed_by v o =
    cond (notable o v.at)
    (record {
      address = v.address;
      ends = ends_after o v.ends v.at;
      at = afterwards v.ends v.at;
      packets = counted v.packets;
      stage = stage_after o (ends_after o v.ends v.at) (afterwards v.ends v.at);
    })
    (on_stage v (NotRead ImpossibleReply))

-- "the 256th "not ready" in a row to one request"
abbrev pub first_stage : ℕ → Stage
first_stage sent = cond (ltb sent patience) (Asking (suc sent) First) (NotRead NotReady)

abbrev pub second_stage : ℕ → ℕ → Stage
second_stage sent upper = cond (ltb sent patience) (Asking (suc sent) (Second upper)) (Asking sent (Second upper))

-- by what the reader has become with the reply to the packet `sent` of the request, the command word's being 0
abbrev pub read_by : Visit → ℕ → Reader → Visit
read_by v sent First = on_stage v (first_stage sent)
read_by v sent (Second upper) = on_stage v (second_stage sent upper)
read_by v sent (Closed o) = closed_by v o
read_by v sent (Bad why) = on_stage v (NotRead ImpossibleReply)

abbrev pub reader_after : Visit → Reader → ℕ → Reader
reader_after v reader reply = after_reply (kind_of (request_now v)) reader reply

-- "The reply to its command word must be 0FFFF"
abbrev pub command_stage : ℕ → Stage
command_stage reply = cond (eqb reply complete) (Asking 1 First) (NotRead Late)

abbrev pub ask_stage : Visit → ℕ → Reader → ℕ → Visit
ask_stage v sent reader reply =
    cond (eqb sent 0) (on_stage v (command_stage reply)) (read_by v sent (reader_after v reader reply))

abbrev pub heard_at : Visit → Stage → ℕ → Visit
heard_at v (Marking i) reply = on_stage v (mark_stage v i reply)
heard_at v (Asking sent reader) reply = ask_stage v sent reader reply
heard_at v AsRead reply = v
heard_at v (NotRead reason) reply = v

abbrev pub is_over : Stage → Bool
is_over (Marking i) = false
is_over (Asking sent reader) = false
is_over AsRead = true
is_over (NotRead reason) = true

-- "is above 1FFFF, whatever was asked"; a visit that is over stays as it is
unfoldable pub heard : Visit → ℕ → Visit
heard v reply =
    cond (is_over v.stage) v (cond (leb reply 0x1FFFF) (heard_at v v.stage reply) (on_stage v (NotRead WordTooLarge)))

-- "a line that is no reply, or the end of the input"
unfoldable pub lost : Visit → Visit
lost v = cond (is_over v.stage) v (on_stage v (NotRead NoReply))

-- "(ground 1)", "(ground 14)"; 0 where a reason is no ground
abbrev pub reason_number : Reason → ℕ
reason_number Late = 0
reason_number NotReady = 0
reason_number NoReply = 0
reason_number WordTooLarge = number why.WordTooLarge
reason_number ImpossibleReply = number why.ImpossibleReply

-- ---- what is noted
-- a value as it is; else the reply that stands for the outcome, above 32 bits
abbrev pub note_of : Outcome → ℕ
note_of (outcome.Value value) = value
note_of outcome.Complete = 2 ^ 32 + complete
note_of outcome.BusError = 2 ^ 32 + bus_error
note_of outcome.Illegal = 2 ^ 32 + illegal

abbrev pub noted_by : ℕ → Reader → List ℕ → List ℕ
noted_by j First notes = notes
noted_by j (Second upper) notes = notes
noted_by j (Closed o) notes = cond (notable o j) (set notes j (note_of o)) notes
noted_by j (Bad why) notes = notes

abbrev pub noted_at : Visit → Stage → ℕ → List ℕ → List ℕ
noted_at v (Marking i) reply notes = notes
noted_at v (Asking sent reader) reply notes = cond (eqb sent 0) notes (noted_by v.at (reader_after v reader reply) notes)
noted_at v AsRead reply notes = notes
noted_at v (NotRead reason) reply notes = notes

-- the closing reply of request j is noted at j
unfoldable pub noted : Visit → ℕ → List ℕ → List ℕ
noted v reply notes = cond (leb reply 0x1FFFF) (noted_at v v.stage reply notes) notes

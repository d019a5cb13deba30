-- The exchange (01, Packets, and by eye): what is refused, in its order.
use Rattle.std.specs.Prelude.{[], ◌∷◌, leb, length, Result, ⊤}
use Rattle.grounds.specs.declared.Ground.{Ground}
use Rattle.grounds.specs.declared.Ground.TheVariants.{MemoryTooLong, StateOutOfRange, RequestOutOfRange}
use Rattle.grounds.specs.Grounds.{check, judge}
use Rattle.ranges.specs.Ranges.{in_range as stateInRange}
use Rattle.board.specs.State.{State}
use Rattle.requests.specs.declared.Request.{Request}
use Rattle.requests.specs.Request.{in_range}

-- the request's 13, and then a packet's own: "packets 12, 3"; no word that is built is above 0x1FFFF
unfoldable pub exchange_verdict : Request → State → Result ⊤ Ground
exchange_verdict request s =
    judge
    (check (in_range request) RequestOutOfRange
    ∷ check (stateInRange s.board s.place) StateOutOfRange
    ∷ check (leb (length s.memory) 65536) MemoryTooLong
    ∷ [])

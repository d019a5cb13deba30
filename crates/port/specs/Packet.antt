-- Packets (01): one packet. The grounds on which it is refused, and the promise: for every input its answer, the new state and each byte of memory.
use Rattle.std.specs.Prelude.{ℕ, ◌≡◌, List, [], ◌∷◌, leb, length, Err, Ok, Result, ⊤}
use Rattle.grounds.specs.declared.Ground.{Ground}
use Rattle.grounds.specs.declared.Ground.TheVariants.{WordTooLarge, MemoryTooLong, StateOutOfRange}
use Rattle.grounds.specs.Grounds.{number, check, judge, Refusal, no_refusal, refusal_of, if_accepted}
use Rattle.ranges.specs.Ranges.{in_range}
use Rattle.board.specs.State.{State, state_of}
use Rattle.step.specs.Step.{reply_now, stepped}
use Rattle.port.specs.declared.Answer.{Answer}

-- "Order: packets 12, 3, 1"
unfoldable pub packet_verdict : State → ℕ → Result ⊤ Ground
packet_verdict s word =
    judge
    (check (in_range s.board s.place) StateOutOfRange
    ∷ check (leb (length s.memory) 65536) MemoryTooLong
    ∷ check (leb word 0x1FFFF) WordTooLarge
    ∷ [])

-- what a packet's answer says on paper: the refusal and zero, or none and the reply
pub record PacketTold : Type 0 where
  pub refusal : Refusal
  pub reply : ℕ

abbrev pub told_packet : Result ℕ Ground → PacketTold
told_packet (Ok reply) = record { refusal = no_refusal; reply = reply }
told_packet (Err why) = record { refusal = refusal_of why; reply = 0 }

abbrev pub answered : Result ⊤ Ground → ℕ → Result ℕ Ground
answered (Ok _) reply = Ok reply
answered (Err g) reply = Err g

pub record PacketMeets (s : State) (word : ℕ) (r : Answer) (after : List ℕ) : Type 0 where
  -- the refusal, or the reply fixed by the state before
  pub answer : told_packet r.outcome ≡ told_packet (answered (packet_verdict s word) (reply_now s.place))
  -- the board, the place and memory after its input is taken; as given where it is refused
  pub state : state_of r.board r.place after ≡ if_accepted (packet_verdict s word) (stepped s word) s

-- "A refusal returns its number, .. state, memory and result buffers stay as given."
pub record Unaltered (s : State) (g : Ground) (r : Answer) (after : List ℕ) : Type 0 where
  pub numbered : (told_packet r.outcome).refusal.number ≡ number g
  pub state : state_of r.board r.place after ≡ s

-- an accepted packet replies from the state before it, and takes its step
pub record Stepped (s : State) (word : ℕ) (r : Answer) (after : List ℕ) : Type 0 where
  pub unrefused : (told_packet r.outcome).refusal.number ≡ 0
  pub reply : (told_packet r.outcome).reply ≡ reply_now s.place
  pub state : state_of r.board r.place after ≡ stepped s word

-- Demand 3 of a run of packets (`take_packets`): its packets as calls of a history, and what the run then promises.
use Rattle.std.specs.Prelude.{ℕ, zero, suc, ◌%◌, ◌<◌, ◌≡◌, List, [], ◌∷◌, ◌++◌, map, length, get_or, take, drop}
use Rattle.std.proofs.Common.{arith}
use Rattle.memory.specs.Memory.{AllBelow}
use Rattle.board.specs.State.{State, state_of}
use Rattle.step.specs.Step.{stepped}
use Rattle.run.specs.declared.Ran.{Ran}
use Rattle.promises.specs.Machine.{stand_in}
use Rattle.promises.specs.Environment.{Handed, handed}
use Rattle.promises.specs.History.{Lent, Call, lending, after, finds, made}
use Rattle.promises.specs.History.Call.{packet}
use Rattle.promises.specs.Demand3.{next_reply, trail_of, ClosingReplies}

-- what a buffer of bytes holds of it
abbrev pub as_bytes : List ℕ → List ℕ
as_bytes [] = []
as_bytes (x ∷ xs) = x % 256 ∷ as_bytes xs

abbrev pub lent_as : List ℕ → Lent
lent_as xs = record { bytes = as_bytes xs; narrow = narrow xs }
  where
    narrow : (xs : List ℕ) → AllBelow 256 (as_bytes xs)
    narrow [] i = omega arith
    narrow (x ∷ xs) zero = omega arith
    narrow (x ∷ xs) (suc i) = narrow xs i

-- words sent one after another, the first lent the memory at hand, each of the others the memory that the one before it left
unfoldable pub packets_of : State → List ℕ → List Call
packets_of s [] = []
packets_of s (word ∷ words) = packet (lent_as s.memory) word ∷ packets_of (stepped s word) words

-- the replies that calls carry out, those of them that are accepted packets
abbrev pub replies_to : State → List Call → List ℕ
replies_to s calls = map (λ (h : Handed). h.reply) (handed stand_in s.place (finds stand_in s calls))

-- a run of words where a history leads to, over memory that is lent, that answers r and leaves memory and replies so
module _ (w : ℕ) (history : List Call) (m : Lent) (words before : List ℕ) (r : Ran) (memory out : List ℕ) where
  -- what the run finds
  abbrev pub found_by_run : State
  found_by_run = lending (after stand_in (made w) history) m

  -- The run is its packets.
  pub record RunIsItsPackets : Type 0 where
    -- Each of them is accepted.
    pub accepted : length (finds stand_in found_by_run (packets_of found_by_run words)) ≡ length words
    -- They leave the board, the place and each byte of memory that the run leaves.
    pub state : state_of r.board r.place memory ≡ after stand_in found_by_run (packets_of found_by_run words)
    -- They carry out its replies, which stand at the front of the buffer; what is beyond them stays.
    pub replies : out ≡ replies_to found_by_run (packets_of found_by_run words) ++ drop (length words) before

  -- The closing replies of demand 3 hold of the run.
  pub record RunCloses : Type 0 where
    -- Over the history and the run each command word gets one closing reply, in the order sent.
    pub closing : ClosingReplies stand_in w (history ++ packets_of found_by_run words)
    -- The place that the run leaves is where that history leads to.
    pub place : r.place ≡ (after stand_in (made w) (history ++ packets_of found_by_run words)).place
    -- The reply at i is the one that the rules give next for the last command word taken before packet i.
    pub carries : (i : ℕ) → i < length words → get_or out i 0 ≡ next_reply (trail_of stand_in w (history ++ packets_of found_by_run (take i words))).words

-- Demand 3, "no history strands the port": its promises, one record each, of any machine.
use Rattle.std.specs.Prelude.{ℕ, ◌+◌, ◌≤◌, ◌<◌, ◌≡◌, Bool, true, List, [], ◌∷◌, map, length, Ok}
use Rattle.command.specs.Reply.{complete}
use Rattle.board.specs.declared.Board.{Board}
use Rattle.ranges.specs.Ranges.{in_range}
use Rattle.board.specs.Board.{at_rest}
use Rattle.board.specs.State.{State}
use Rattle.promises.specs.Machine.{Machine}
use Rattle.promises.specs.TakenWords.{Word, stage, closing, reply_at, is_closed}
use Rattle.promises.specs.TakenWords.Closing.{reply}
use Rattle.promises.specs.Environment.{Found, Trail, trail, begun, handed, under_way, AllFit, AllNops}
use Rattle.promises.specs.History.{Lent, Call, lending, after, finds, made, Idle, nops}
use Rattle.promises.specs.HeldRegister.{register_held}

-- the reply that the rules give next: for the last word, or on a fresh board "next reply 0x0FFFF"
abbrev pub next_reply : List Word → ℕ
next_reply [] = complete
next_reply (o ∷ os) = reply_at (stage o)

abbrev pub last_closed : List Word → Bool
last_closed [] = true
last_closed (o ∷ os) = is_closed (stage o)

-- the words before the last
abbrev pub earlier : List Word → List Word
earlier [] = []
earlier (o ∷ os) = os

-- Each command word of a place gets one closing reply, in the order sent.
pub record PlaceCloses (k : Machine) (t : Trail) : Type 0 where
  -- At rest, the next packet carries out the closing reply of the last command word taken.
  pub last : (o : Word) (os : List Word) → t.words ≡ o ∷ os → at_rest t.place.phase ≡ true → closing o ≡ reply (k.reply t.place)
  -- The port is at rest exactly where that reply is the next one, so that the packet which carries it out is the next command word.
  pub rests : at_rest t.place.phase ≡ last_closed t.words
  -- At rest or not, the next packet carries out what the rules give next for the last word: not ready, its upper result word, or its closing reply.
  pub next : k.reply t.place ≡ next_reply t.words
  -- Every word before the last has had its closing reply, one each, in the order sent.
  pub in_order : map closing (earlier t.words) ≡ map reply t.given

-- Packets that are all NOPs bring a place to rest, whatever board and memory each of them finds.
pub record PlaceRests (k : Machine) (w : ℕ) (t : Trail) (fs : List Found) : Type 0 where
  -- With 4 + W of them or more the port is at rest.
  pub enough : 4 + w ≤ length fs → at_rest (trail k t fs).place.phase ≡ true
  -- At most 4 + W of them find it not at rest.
  pub at_most : under_way k t.place fs ≤ 4 + w
  -- Those are not taken as command words; each of the others is one.
  pub none_taken : length (trail k t fs).words + under_way k t.place fs ≡ length t.words + length fs

-- two boards that agree in all but halted, the flags, BSTAT and a pending SYNC_PC
pub record SameButStatus (a b : Board) : Type 0 where
  -- The same W,
  pub setting : a.w ≡ b.w
  -- the same general and control registers,
  pub registers : a.registers ≡ b.registers
  -- the same debug registers,
  pub debug : a.debug ≡ b.debug
  -- and [4] the same address that was not there, or none.
  pub fault : a.fault ≡ b.fault

-- NOPs with events and breakpoint inputs between them, against the same NOPs in a row.
pub record Unmoved (k : Machine) (s : State) (ms : List Lent) (idle : List Call) : Type 0 where
  -- It takes as many NOPs to rest.
  pub number : under_way k s.place (finds k s idle) ≡ under_way k s.place (finds k s (nops ms))
  -- The port then holds the same phase, chain, pointer and next reply.
  pub place : (after k s idle).place ≡ (after k s (nops ms)).place
  -- W and all registers are the same; halted, the flags, BSTAT and a pending SYNC_PC are what the events make of them.
  pub board : SameButStatus (after k s idle).board (after k s (nops ms)).board
  -- Each NOP has carried out the same reply and left the same memory.
  pub handed : handed k s.place (finds k s idle) ≡ handed k s.place (finds k s (nops ms))

-- NOPs from a state that a history leads to, with whatever events and breakpoint inputs between them.
pub record NopsBring (k : Machine) (w : ℕ) (s : State) (t : Trail) (ms : List Lent) (idle : List Call) : Type 0 where
  -- Every one of the NOPs is accepted.
  pub accepted : length (finds k s idle) ≡ length ms
  -- With 4 + W NOPs or more the port is at rest.
  pub enough : 4 + w ≤ length ms → at_rest (after k s idle).place.phase ≡ true
  -- It takes at most 4 + W of them, none of which is taken as a command word.
  pub brought : PlaceRests k w t (finds k s idle)
  -- What comes between makes no difference to how many it takes or what the port then holds.
  pub unmoved : Unmoved k s ms idle

-- a history's command words and closing replies
abbrev pub trail_of : Machine → ℕ → List Call → Trail
trail_of k w history = trail k begun (finds k (made w) history)

-- No history strands the port.
pub record NeverStranded (k : Machine) (w : ℕ) (history : List Call) : Type 0 where
  -- The state that it leads to is within the ranges of ground 12.
  pub ranged : in_range (after k (made w) history).board (after k (made w) history).place ≡ true
  -- A command under way holds a register number below 16.
  pub register : register_held (after k (made w) history).place.phase < 16
  -- Every packet within its limits is accepted there.
  pub accepted : (m : Lent) (word : ℕ) → length m.bytes ≤ 65536 → word ≤ 0x1FFFF → k.verdict (lending (after k (made w) history) m) word ≡ Ok tt
  -- From there NOPs bring the port to rest, whatever memory within the limit each is lent and whatever comes between.
  pub nops : (ms : List Lent) (idle : List Call) → Idle ms idle → NopsBring k w (after k (made w) history) (trail_of k w history) ms idle

-- Over a whole history each command word gets one closing reply, in the order sent.
pub record ClosingReplies (k : Machine) (w : ℕ) (history : List Call) : Type 0 where
  -- The words are noted along the places that the history really leads to.
  pub place : (after k (made w) history).place ≡ (trail_of k w history).place
  -- They get their closing replies.
  pub closes : PlaceCloses k (trail_of k w history)

-- DEMAND 3: of any list of calls on a fresh board with any W from 0 to 15.
pub record Demand3 (k : Machine) : Type 0 where
  -- None strands the port.
  pub rest : (w : ℕ) → w ≤ 15 → (history : List Call) → NeverStranded k w history
  -- Each command word of each gets its closing reply.
  pub closing : (w : ℕ) → w ≤ 15 → (history : List Call) → ClosingReplies k w history

-- DEMAND 3, place by place: of a place whose packets find any boards of one W and any memory within the limit.
pub record PlaceDemand3 (k : Machine) : Type 0 where
  -- NOPs bring it to rest, whatever the packets before and each NOP find.
  pub rest : (w : ℕ) (before idle : List Found) → AllFit w before → AllNops w idle → PlaceRests k w (trail k begun before) idle
  -- Each of its command words gets its closing reply.
  pub closing : (w : ℕ) (before : List Found) → AllFit w before → PlaceCloses k (trail k begun before)

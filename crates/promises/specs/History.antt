-- Demand 3: a history is any list of calls on a fresh board with any W from 0 to 15. Refused calls change nothing.
use Rattle.std.specs.Prelude.{ℕ, ◌≤◌, List, [], ◌∷◌, length}
use Rattle.grounds.specs.Grounds.{if_accepted}
use Rattle.memory.specs.Memory.{AllBelow}
use Rattle.board.specs.Board.{fresh_board, fresh_place}
use Rattle.board.specs.State.{State, state_of}
use Rattle.trigger.specs.declared.Event.{Event}
use Rattle.promises.specs.Machine.{Machine}
use Rattle.promises.specs.Environment.{Found}

-- "Memory is a lent buffer": bytes
pub record Lent : Type 0 where
  pub bytes : List ℕ
  pub narrow : AllBelow 256 bytes

-- a packet is lent its own memory, which need not be what the last call left
pub data Call : Type 0 where
  packet : Lent → ℕ → Call
  event : Event → Call
  breakpoint : Call

abbrev pub lending : State → Lent → State
lending s m = state_of s.board s.place m.bytes

-- what an accepted packet finds
abbrev pub finding : State → Lent → ℕ → Found
finding s m word = record { board = s.board; memory = m.bytes; word = word }

-- what a call leaves: "state, memory and result buffers stay as given" where it is refused
abbrev pub after_call : Machine → State → Call → State
after_call k s (packet m word) = if_accepted (k.verdict (lending s m) word) (k.step (lending s m) word) (lending s m)
after_call k s (event e) = k.event s e
after_call k s breakpoint = k.input s

unfoldable pub after : Machine → State → List Call → State
after k s [] = s
after k s (c ∷ cs) = after k (after_call k s c) cs

-- the accepted packets of a history, each with what it finds
abbrev pub found_by : Machine → State → Call → List Found → List Found
found_by k s (packet m word) fs = if_accepted (k.verdict (lending s m) word) (finding s m word ∷ fs) fs
found_by k s (event e) fs = fs
found_by k s breakpoint fs = fs

unfoldable pub finds : Machine → State → List Call → List Found
finds k s [] = []
finds k s (c ∷ cs) = found_by k s c (finds k (after_call k s c) cs)

-- a fresh board with its place, before any memory is lent
abbrev pub made : ℕ → State
made w = state_of (fresh_board w) fresh_place []

-- NOPs in a row, each with the memory lent with it, within the limit, and any events and breakpoint inputs before, between and after
pub data Idle : List Lent → List Call → Type 0 where
  none : Idle [] []
  nop : {ms : List Lent} {cs : List Call} (m : Lent) → length m.bytes ≤ 65536 → Idle ms cs → Idle (m ∷ ms) (packet m 0 ∷ cs)
  with_event : {ms : List Lent} {cs : List Call} (e : Event) → Idle ms cs → Idle ms (event e ∷ cs)
  with_breakpoint : {ms : List Lent} {cs : List Call} → Idle ms cs → Idle ms (breakpoint ∷ cs)

-- the same NOPs with nothing between
abbrev pub nops : List Lent → List Call
nops [] = []
nops (m ∷ ms) = packet m 0 ∷ nops ms

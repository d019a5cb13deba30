-- Events and firing (01) for programs in other languages: a fresh board of W = 0, its debug registers written, GO, then events in turn, one word to each.
use Rattle.std.specs.Prelude.{ℕ, ◌+◌, ◌*◌, ◌≡◌, cond, List, [], ◌∷◌, ◌++◌, leb, length, drop, get_or, None, Option, Result, Some, ⊤}
use Rattle.comparators.specs.declared.BusAccess.{BusAccess}
use Rattle.grounds.specs.declared.Ground.{Ground}
use Rattle.grounds.specs.declared.Ground.TheVariants.{BufferTooShort}
use Rattle.grounds.specs.Grounds.{check, judge, told, if_accepted}
use Rattle.command.specs.declared.DebugRegister.{DebugRegister}
use Rattle.command.specs.declared.DebugRegister.TheVariants.{Csr, Baar, Aatr, Tdr, Pbr, Pbmr, Abhr, Ablr, Dbr, Dbmr}
use Rattle.command.specs.Command.{wdmreg, go}
use Rattle.board.specs.declared.Board.{Board}
use Rattle.board.specs.declared.Place.{Place}
use Rattle.board.specs.Board.{fresh_board, fresh_place}
use Rattle.registers.specs.Registers.{board_after}
use Rattle.trigger.specs.declared.Event.{Event}
use Rattle.bus.specs.EventAnswers.{EventTold, told_event}
use Rattle.bus.specs.Events.{event_outcome, board_after_event}

-- "WDMREG takes 0x00 CSR, 0x05 BAAR, 0x06 AATR, 0x07 TDR, 0x08 PBR, 0x09 PBMR, 0x0C ABHR, 0x0D ABLR, 0x0E DBR, 0x0F DBMR."
abbrev pub registers_in_order : List DebugRegister
registers_in_order = Csr ∷ Baar ∷ Aatr ∷ Tdr ∷ Pbr ∷ Pbmr ∷ Abhr ∷ Ablr ∷ Dbr ∷ Dbmr ∷ []

-- registers written by WDMREG one after the other, the values from a place of their list on
abbrev pub written_from : List DebugRegister → ℕ → List ℕ → Board → Board
written_from [] i values b = b
written_from (r ∷ rs) i values b = written_from rs (i + 1) values (board_after (wdmreg r) b 0 (get_or values i 0))

-- all ten of them, and GO
unfoldable pub set_up : List ℕ → Board → Board
set_up values b = board_after go (written_from registers_in_order 0 values b) 0 0

-- "perhaps one access (address, attribute byte laid out as AATR's low byte, 32 data lanes)": none where the attribute is no byte
abbrev pub bus_of : ℕ → ℕ → ℕ → Option BusAccess
bus_of attribute address lanes = cond (leb attribute 255) (Some (record { address = address; attribute = attribute; lanes = lanes })) None

-- "An event is one instruction start: its PC and perhaps one access"; four words have no room for a mark
abbrev pub event_of : ℕ → ℕ → ℕ → ℕ → Event
event_of pc attribute address lanes = record { pc = pc; bus = bus_of attribute address lanes; mark = None }

-- the event whose four words begin at a place
abbrev pub event_at : List ℕ → ℕ → Event
event_at words at = event_of (get_or words at 0) (get_or words (at + 1) 0) (get_or words (at + 2) 0) (get_or words (at + 3) 0)

-- four words an event; fewer than four at the end are none
unfoldable pub events_of : List ℕ → List Event
events_of [] = []
events_of (pc ∷ []) = []
events_of (pc ∷ attribute ∷ []) = []
events_of (pc ∷ attribute ∷ address ∷ []) = []
events_of (pc ∷ attribute ∷ address ∷ lanes ∷ words) = event_of pc attribute address lanes ∷ events_of words

-- "An event's answer: level fired (0, 1, 2), halted by it, interrupt asked, PC captured"; of a refusal 256 times its number
abbrev pub answer_word : EventTold → ℕ
answer_word t = 256 * t.refusal.number + (t.level + (cond t.halted 4 0 + (cond t.interrupt 8 0 + 16 * length t.captured)))

-- the answers to events in turn, each on the board that the one before left
unfoldable pub answers_to : List Event → Board → Place → List ℕ
answers_to [] b p = []
answers_to (event ∷ events) b p = answer_word (told_event (event_outcome b p event)) ∷ answers_to events (board_after_event b p event) p

-- "11: the result buffer is too short": a word for each event
abbrev pub events_verdict : List Event → ℕ → Result ⊤ Ground
events_verdict events room = judge (check (leb (length events) room) BufferTooShort ∷ [])

-- the words lent, after the answers; those beyond the last stay
abbrev pub answers_over : List ℕ → List ℕ → List ℕ
answers_over answers before = answers ++ drop (length answers) before

-- the promise of events on a board as set up
pub record EventsMeet (registers words before : List ℕ) (r : ℕ) (after : List ℕ) : Type 0 where
  -- 0, or 11
  pub answer : r ≡ (told (events_verdict (events_of words) (length before))).number
  -- every word of the buffer
  pub answers : after
      ≡ if_accepted (events_verdict (events_of words) (length before))
      (answers_over (answers_to (events_of words) (set_up registers (fresh_board 0)) fresh_place) before) before

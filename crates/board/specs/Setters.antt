-- The board and its parts (01): each part with one field another. A new field of a struct is named here and where a fresh board is made.
use Rattle.std.specs.Prelude.{ℕ, Bool, List, Option}
use Rattle.board.specs.declared.Board.{Board}
use Rattle.board.specs.declared.Status.{Status}
use Rattle.board.specs.declared.Registers.{Registers}
use Rattle.board.specs.declared.Debug.{Debug}
use Rattle.board.specs.declared.Place.{Place}
use Rattle.board.specs.declared.Phase.{Phase}
use Rattle.board.specs.declared.Chain.{Chain}

-- ---- the board
abbrev pub with_w : Board → ℕ → Board
with_w b w = record { w = w; status = b.status; registers = b.registers; debug = b.debug; fault = b.fault }

abbrev pub with_status : Board → Status → Board
with_status b s = record { w = b.w; status = s; registers = b.registers; debug = b.debug; fault = b.fault }

abbrev pub with_registers : Board → Registers → Board
with_registers b r = record { w = b.w; status = b.status; registers = r; debug = b.debug; fault = b.fault }

abbrev pub with_debug : Board → Debug → Board
with_debug b d = record { w = b.w; status = b.status; registers = b.registers; debug = d; fault = b.fault }

abbrev pub with_fault : Board → Option ℕ → Board
with_fault b f = record { w = b.w; status = b.status; registers = b.registers; debug = b.debug; fault = f }

-- ---- its registers
abbrev pub with_general : Registers → List ℕ → Registers
with_general r general = record { general = general; control = r.control }

abbrev pub with_control : Registers → List ℕ → Registers
with_control r control = record { general = r.general; control = control }

-- ---- its status
abbrev pub with_halted : Status → Bool → Status
with_halted s x = record { halted = x; fof = s.fof; trg = s.trg; halt = s.halt; bkpt = s.bkpt; bstat = s.bstat; sync = s.sync }

abbrev pub with_fof : Status → Bool → Status
with_fof s x = record { halted = s.halted; fof = x; trg = s.trg; halt = s.halt; bkpt = s.bkpt; bstat = s.bstat; sync = s.sync }

abbrev pub with_trg : Status → Bool → Status
with_trg s x = record { halted = s.halted; fof = s.fof; trg = x; halt = s.halt; bkpt = s.bkpt; bstat = s.bstat; sync = s.sync }

abbrev pub with_halt : Status → Bool → Status
with_halt s x = record { halted = s.halted; fof = s.fof; trg = s.trg; halt = x; bkpt = s.bkpt; bstat = s.bstat; sync = s.sync }

abbrev pub with_bkpt : Status → Bool → Status
with_bkpt s x = record { halted = s.halted; fof = s.fof; trg = s.trg; halt = s.halt; bkpt = x; bstat = s.bstat; sync = s.sync }

abbrev pub with_bstat : Status → ℕ → Status
with_bstat s x = record { halted = s.halted; fof = s.fof; trg = s.trg; halt = s.halt; bkpt = s.bkpt; bstat = x; sync = s.sync }

abbrev pub with_sync : Status → Bool → Status
with_sync s x = record { halted = s.halted; fof = s.fof; trg = s.trg; halt = s.halt; bkpt = s.bkpt; bstat = s.bstat; sync = x }

-- ---- the place: all that a packet changes of it
abbrev pub place_with : Place → Phase → Chain → ℕ → ℕ → Place
place_with p phase chain pointer next = record { phase = phase; chain = chain; pointer = pointer; next = next }

-- Packets (01): the meaning of a request. What it answers and what it leaves, with no W, no phase and no reply in it.
use Rattle.std.specs.Prelude.{ℕ, cond, List, get_or, set, None, Some}
use Rattle.memory.specs.declared.Size.{Size}
use Rattle.memory.specs.Memory.{aligned, present, first_missing, value_at, put_at}
use Rattle.command.specs.declared.DebugRegister.TheVariants.{Tdr}
use Rattle.board.specs.declared.Board.{Board}
use Rattle.board.specs.declared.Chain.{Chain}
use Rattle.board.specs.declared.Chain.TheVariants.{Off, Dumping, Filling}
use Rattle.csr.specs.Csr.{csr_value, after_csr_read, after_go, after_sync_pc}
use Rattle.board.specs.Setters.{with_status, with_registers, with_debug, with_fault, with_general, with_control}
use Rattle.control.specs.Control.{control_index, control_listed}
use Rattle.registers.specs.Registers.{is, armed, debug_loaded}
use Rattle.access.specs.Access.{past}
use Rattle.requests.specs.declared.Request.{Request}
use Rattle.requests.specs.declared.Request.TheVariants.{Rdreg, Wdreg, Read, Write, Dump, Fill, Go, Nop, SyncPc, Rcreg, Wcreg, Rdmreg, Wdmreg}
use Rattle.readings.specs.declared.Outcome.{Outcome}
use Rattle.readings.specs.declared.Outcome.TheVariants.{Value, Complete, BusError}

-- all that a request finds and leaves
pub record Scene : Type 0 where
  pub board : Board
  pub chain : Chain
  pub pointer : ℕ
  pub memory : List ℕ

pub record Meaning : Type 0 where
  pub outcome : Outcome
  pub leaves : Scene

-- [4] every command word but NOP's clears the number of the address that was not there
abbrev pub cleared : Board → Board
cleared b = with_fault b None

-- "Any other .. command word .. ends the chain"; the pointer and memory stay
abbrev pub ends : Outcome → Board → Scene → Meaning
ends outcome b s = record { outcome = outcome; leaves = record { board = cleared b; chain = Off; pointer = s.pointer; memory = s.memory } }

-- "a bus error and alters nothing", "A bus error doesn't move it", "a bus error .. ends the chain"; [4] "A control-register error keeps none"
abbrev pub fails : Scene → Meaning
fails s = ends BusError s.board s

-- the same of memory; [4] "keep that number": "the lowest address of the access that isn't there"
abbrev pub misses : Size → ℕ → Scene → Meaning
misses size address s = record {
  outcome = BusError;
  leaves = record {
    board = with_fault s.board (Some (first_missing s.memory size address));
    chain = Off;
    pointer = s.pointer;
    memory = s.memory;
  };
}

-- READ and DUMP: the bytes in memory at the aligned address; "leave the pointer at aligned address plus size"
abbrev pub reads : Size → ℕ → Scene → Meaning
reads size address s =
    cond (present s.memory size address)
    (record {
      outcome = Value (value_at s.memory size (aligned size address));
      leaves = record { board = cleared s.board; chain = Dumping; pointer = past size address; memory = s.memory };
    })
    (misses size address s)

-- WRITE and FILL: the data put there; "leave the pointer at aligned address plus size"
abbrev pub writes : Size → ℕ → ℕ → Scene → Meaning
writes size address value s =
    cond (present s.memory size address)
    (record {
      outcome = Complete;
      leaves =
          record { board = cleared s.board; chain = Filling; pointer = past size address; memory = put_at s.memory size (aligned size address) value };
    })
    (misses size address s)

-- "a second not listed, is a bus error"
abbrev pub reads_control : ℕ → Scene → Meaning
reads_control rc s = cond (control_listed rc) (ends (Value (get_or s.board.registers.control (control_index rc) 0)) s.board s) (fails s)

abbrev pub writes_control : ℕ → ℕ → Scene → Meaning
writes_control rc value s =
    cond (control_listed rc)
    (ends Complete (with_registers s.board (with_control s.board.registers (set s.board.registers.control (control_index rc) value))) s)
    (fails s)

-- a data or address register written
abbrev pub with_register : Board → ℕ → ℕ → Board
with_register b register value = with_registers b (with_general b.registers (set b.registers.general register value))

-- the debug register of number n written; "A TDR write sets BSTAT"
abbrev pub with_debug_register : Board → ℕ → ℕ → Board
with_debug_register b n value =
    with_status (with_debug b (debug_loaded n value b.debug)) (cond (is n Tdr) (armed b.status value) b.status)

-- what each request answers and leaves where its command word is legal
abbrev pub meaning : Request → Scene → Meaning
meaning (Rdreg register) s = ends (Value (get_or s.board.registers.general register 0)) s.board s
meaning (Wdreg register value) s = ends Complete (with_register s.board register value) s
meaning (Read size address) s = reads size address s
meaning (Write size address value) s = writes size address value s
meaning (Dump size) s = reads size s.pointer s
meaning (Fill size value) s = writes size s.pointer value s
meaning Go s = ends Complete (with_status s.board (after_go s.board.status)) s
meaning Nop s = record { outcome = Complete; leaves = s }
meaning SyncPc s = ends Complete (with_status s.board (after_sync_pc s.board.status)) s
meaning (Rcreg rc) s = reads_control rc s
meaning (Wcreg rc value) s = writes_control rc value s
meaning (Rdmreg n) s = ends (Value (csr_value s.board)) (with_status s.board (after_csr_read s.board.status)) s
meaning (Wdmreg n value) s = ends Complete (with_debug_register s.board n value) s

-- What every packet keeps: the ranges of ground 12, bytes below 256, registers within their width, W.
use Rattle.std.specs.Prelude.{ℕ, ◌≤◌, ◌<◌, ◌^◌, ◌≡◌, true, List, length}
use Rattle.memory.specs.Memory.{AllBelow}
use Rattle.command.specs.Command.{operand_words, waits}
use Rattle.board.specs.declared.Board.{Board}
use Rattle.board.specs.declared.Debug.{Debug}
use Rattle.board.specs.declared.Operands.{Operands}
use Rattle.board.specs.declared.Phase.{Phase}
use Rattle.board.specs.declared.Phase.TheVariants.{Rest, Due, Waiting, Upper}
use Rattle.board.specs.declared.Place.{Place}
use Rattle.ranges.specs.Ranges.{bstat_in_range}
use Rattle.board.specs.State.{State}

-- "32 bits each", "AATR keeps the low 16 bits, BAAR the low 8"
pub record DebugWithin (d : Debug) : Type 0 where
  pub csr : d.csr < 2 ^ 32
  pub baar : d.baar < 2 ^ 8
  pub aatr : d.aatr < 2 ^ 16
  pub tdr : d.tdr < 2 ^ 32
  pub pbr : d.pbr < 2 ^ 32
  pub pbmr : d.pbmr < 2 ^ 32
  pub abhr : d.abhr < 2 ^ 32
  pub ablr : d.ablr < 2 ^ 32
  pub dbr : d.dbr < 2 ^ 32
  pub dbmr : d.dbmr < 2 ^ 32

-- a board made with W: its own ranges, and its registers within their width
pub record SoundBoard (w : ℕ) (b : Board) : Type 0 where
  pub setting : b.w ≡ w
  pub small : w ≤ 15
  pub bstat : bstat_in_range b.status.bstat ≡ true
  pub general : AllBelow (2 ^ 32) b.registers.general
  pub control : AllBelow (2 ^ 32) b.registers.control
  pub debug : DebugWithin b.debug

pub record OperandsWithin (t : Operands) : Type 0 where
  pub oldest : t.oldest < 2 ^ 16
  pub older : t.older < 2 ^ 16
  pub newer : t.newer < 2 ^ 16
  pub newest : t.newest < 2 ^ 16

-- a phase within its range, what it holds within its width
abbrev pub PhaseWithin : ℕ → Phase → Type 0
PhaseWithin w Rest = Unit {0}
PhaseWithin w (Due c left t) = (1 ≤ left) × (left ≤ operand_words c) × OperandsWithin t
PhaseWithin w (Waiting c left address value) = (1 ≤ left) × (left ≤ w) × (waits c ≡ true) × (address < 2 ^ 32) × (value < 2 ^ 32)
PhaseWithin w (Upper low) = low < 2 ^ 16

pub record SoundPlace (w : ℕ) (p : Place) : Type 0 where
  pub phase : PhaseWithin w p.phase
  pub next : p.next ≤ 0x1FFFF
  pub pointer : p.pointer ≤ 65536

-- memory within its limit, of bytes
pub record SoundMemory (m : List ℕ) : Type 0 where
  pub limit : length m ≤ 65536
  pub bytes : AllBelow 256 m

-- all that a packet finds
pub record Sound (s : State) : Type 0 where
  pub board : SoundBoard s.board.w s.board
  pub place : SoundPlace s.board.w s.place
  pub memory : SoundMemory s.memory

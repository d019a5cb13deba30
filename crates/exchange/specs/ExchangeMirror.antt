-- What the code makes of a reader, and what the types of its parameters give, beyond the ranges of ground 12.
use Rattle.std.specs.Prelude.{ℕ, ◌^◌, ◌<◌, Err, Ok, Result}
use Rattle.readings.specs.declared.Outcome.{Outcome}
use Rattle.grounds.specs.declared.Ground.{Ground}
use Rattle.grounds.specs.declared.Ground.TheVariants.{ImpossibleReply}
use Rattle.memory.specs.Memory.{AllBelow}
use Rattle.board.specs.declared.Phase.{Phase}
use Rattle.board.specs.declared.Phase.TheVariants.{Rest, Due, Waiting, Upper}
use Rattle.board.specs.State.{State}
use Rattle.sound.specs.Sound.{DebugWithin, OperandsWithin}
use Rattle.readings.specs.declared.Reader.{Reader}
use Rattle.readings.specs.declared.Reader.TheVariants.{First, Second, Closed, Bad}

-- what a reader that is done brings; no exchange ends with another
abbrev pub answer_of : Reader → ℕ → Result (Outcome × ℕ) Ground
answer_of First packets = Err ImpossibleReply
answer_of (Second upper) packets = Err ImpossibleReply
answer_of (Closed outcome) packets = Ok (outcome, packets)
answer_of (Bad why) packets = Err why

-- operand words of 16 bits, addresses and data of 32
abbrev pub PhaseTyped : Phase → Type 0
PhaseTyped Rest = Unit {0}
PhaseTyped (Due c left t) = OperandsWithin t
PhaseTyped (Waiting c left address value) = (address < 2 ^ 32) × (value < 2 ^ 32)
PhaseTyped (Upper low) = low < 2 ^ 16

pub record Typed (s : State) : Type 0 where
  pub general : AllBelow (2 ^ 32) s.board.registers.general
  pub control : AllBelow (2 ^ 32) s.board.registers.control
  pub debug : DebugWithin s.board.debug
  pub phase : PhaseTyped s.place.phase
  pub bytes : AllBelow 256 s.memory

-- Bringing a port to rest (01, Packets; docs/gateway.md): what the NOPs complete. The command that is under way is given zeros for the words it still lacks.
use Rattle.std.specs.Prelude.{ℕ, zero, suc, ◌+◌, ◌≡◌, Bool, true, false, ◌&&◌, List, leb, ltb, length, get_or}
use Rattle.memory.specs.declared.Size.{Size}
use Rattle.memory.specs.Memory.{bytes, aligned, stored}
use Rattle.command.specs.declared.Command.{Command}
use Rattle.command.specs.declared.Command.TheVariants.{Unknown, Nop, Load, Store, Show, Change}
use Rattle.command.specs.declared.Base.{Base}
use Rattle.command.specs.Command.{operand_words}
use Rattle.board.specs.declared.Board.{Board}
use Rattle.board.specs.declared.Operands.{Operands}
use Rattle.board.specs.declared.Phase.{Phase}
use Rattle.board.specs.declared.Phase.TheVariants.{Rest, Due, Waiting, Upper}
use Rattle.board.specs.State.{State}
use Rattle.step.specs.Step.{worked}
use Rattle.access.specs.Access.{start_of, memory_after}
use Rattle.plan.specs.Plan.{with_operand, address_in, value_in}
use Rattle.round_trip.specs.Meaning.{Scene, cleared}

-- the command whose work is still to be done; at rest, and where a result word is still to leave, none: a NOP's work
abbrev pub command_under_way : Phase → Command
command_under_way Rest = Nop
command_under_way (Due c left t) = c
command_under_way (Waiting c left address value) = c
command_under_way (Upper low) = Nop

-- so many NOPs taken as operand words
abbrev pub with_nops : ℕ → Operands → Operands
with_nops zero t = t
with_nops (suc left) t = with_nops left (with_operand t 0)

abbrev pub address_due : Phase → ℕ
address_due Rest = 0
address_due (Due c left t) = address_in (operand_words c) (with_nops left t)
address_due (Waiting c left address value) = address
address_due (Upper low) = 0

abbrev pub value_due : Phase → ℕ
value_due Rest = 0
value_due (Due c left t) = value_in (operand_words c) (with_nops left t)
value_due (Waiting c left address value) = value
value_due (Upper low) = 0

-- what that command's work leaves of memory and of the board
abbrev pub memory_at_rest : State → List ℕ
memory_at_rest s =
    memory_after (command_under_way s.place.phase) s.memory s.place.pointer (address_due s.place.phase) (value_due s.place.phase)

abbrev pub board_at_rest : State → Board
board_at_rest s = (worked (command_under_way s.place.phase) (address_due s.place.phase) (value_due s.place.phase) s).board

-- WRITE and FILL
abbrev pub is_store : Command → Bool
is_store Unknown = false
is_store Nop = false
is_store (Load size base) = false
is_store (Store size base) = true
is_store (Show source) = false
is_store (Change target) = false

-- byte i of memory is one of the bytes of a WRITE's or a FILL's access
abbrev pub touches : Command → ℕ → ℕ → ℕ → Bool
touches Unknown pointer address i = false
touches Nop pointer address i = false
touches (Load size base) pointer address i = false
touches (Store size base) pointer address i =
    leb (aligned size (start_of base pointer address)) i && ltb i (aligned size (start_of base pointer address) + bytes size)
touches (Show source) pointer address i = false
touches (Change target) pointer address i = false

-- the promise: a port found so has come to rest with such a scene
pub record RestCompletes (s : State) (found : Scene) : Type 0 where
  -- memory and the board are what the work of the one command under way leaves
  pub memory : found.memory ≡ memory_at_rest s
  pub board : found.board ≡ board_at_rest s
  -- "Memory is as it was where no WRITE or FILL was under way"
  pub idle : is_store (command_under_way s.place.phase) ≡ false → found.memory ≡ s.memory
  -- "otherwise the NOPs may complete that one access"
  pub one : (size : Size) (base : Base) → command_under_way s.place.phase ≡ Store size base
      → found.memory ≡ stored s.memory size (start_of base s.place.pointer (address_due s.place.phase)) (value_due s.place.phase)
  -- ".. and alter nothing else": every other byte is as it was, memory as long, and then the board too, but for [4]'s number
  pub elsewhere : (i : ℕ) → touches (command_under_way s.place.phase) s.place.pointer (address_due s.place.phase) i ≡ false
      → get_or found.memory i 0 ≡ get_or s.memory i 0
  pub size : length found.memory ≡ length s.memory
  pub board_stays : is_store (command_under_way s.place.phase) ≡ true → cleared found.board ≡ cleared s.board

-- Packets (01): what a command's work ends in, and what it leaves at the place.
use Rattle.std.specs.Prelude.{ℕ, ◌/◌, ◌%◌, Bool, true, false, None, Option, Some}
use Rattle.memory.specs.declared.Size.TheVariants.{Byte, Word, Long}
use Rattle.command.specs.declared.Command.{Command}
use Rattle.command.specs.declared.Command.TheVariants.{Unknown, Nop, Load, Store, Show, Change}
use Rattle.command.specs.Reply.{complete, bus_error}
use Rattle.board.specs.declared.Board.{Board}
use Rattle.board.specs.declared.Phase.{Phase}
use Rattle.board.specs.declared.Phase.TheVariants.{Rest, Upper}
use Rattle.board.specs.declared.Chain.{Chain}
use Rattle.board.specs.declared.Chain.TheVariants.{Off, Dumping, Filling}
use Rattle.board.specs.declared.Place.{Place}
use Rattle.board.specs.Setters.{place_with}
use Rattle.registers.specs.Registers.{shown, reached}
use Rattle.access.specs.declared.Access.{Access}
use Rattle.access.specs.declared.Access.TheVariants.{NoAccess, Fetched, Stored, Missing}
use Rattle.work.specs.declared.Ending.{Ending}
use Rattle.work.specs.declared.Ending.TheVariants.{Complete, Failed, OneWord, TwoWords}
use Rattle.access.specs.Access.{pointer_after}

abbrev pub access_ending : Access → Ending
access_ending NoAccess = Complete
access_ending (Fetched Byte v past) = OneWord v
access_ending (Fetched Word v past) = OneWord v
access_ending (Fetched Long v past) = TwoWords v
access_ending (Stored past) = Complete
access_ending (Missing first) = Failed

-- a register shown has two result words
abbrev pub shown_ending : Option ℕ → Ending
shown_ending (Some v) = TwoWords v
shown_ending None = Failed

abbrev pub change_ending : Bool → Ending
change_ending true = Complete
change_ending false = Failed

-- the column "Result words", or a bus error
abbrev pub ending_of : Command → Board → ℕ → Access → Ending
ending_of Unknown b address _ = Complete
ending_of Nop b address _ = Complete
ending_of (Load s base) b address access = access_ending access
ending_of (Store s base) b address access = access_ending access
ending_of (Show source) b address _ = shown_ending (shown source b address)
ending_of (Change target) b address _ = change_ending (reached target address)

-- "Of two result words the upper comes first"; "S=0 with data, or 0x0FFFF complete; .. 0x10001 bus error"
abbrev pub first_reply : Ending → ℕ
first_reply Complete = complete
first_reply Failed = bus_error
first_reply (OneWord v) = v
first_reply (TwoWords v) = v / 65536

-- "Otherwise the port rests once the work is done"
abbrev pub phase_after : Ending → Phase
phase_after Complete = Rest
phase_after Failed = Rest
phase_after (OneWord v) = Rest
phase_after (TwoWords v) = Upper (v % 65536)

-- "DUMP is legal only after READ or DUMP, FILL only after WRITE or FILL; NOPs may stand between."
abbrev pub chain_by : Command → Chain → Chain
chain_by Unknown chain = Off
chain_by Nop chain = chain
chain_by (Load s base) chain = Dumping
chain_by (Store s base) chain = Filling
chain_by (Show source) chain = Off
chain_by (Change target) chain = Off

-- "Any other .. command word, a bus error .. ends the chain"
abbrev pub chain_after : Ending → Command → Chain → Chain
chain_after Complete c chain = chain_by c chain
chain_after Failed c chain = Off
chain_after (OneWord v) c chain = chain_by c chain
chain_after (TwoWords v) c chain = chain_by c chain

abbrev pub place_after : Command → Place → Access → Ending → Place
place_after c p access ending =
    place_with p (phase_after ending) (chain_after ending c p.chain) (pointer_after access p.pointer) (first_reply ending)

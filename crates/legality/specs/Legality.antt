-- Packets (01): which command is legal, halted or running and after which.
use Rattle.std.specs.Prelude.{Bool, true, false, ◌&&◌, ◌||◌, not}
use Rattle.command.specs.declared.Command.{Command}
use Rattle.command.specs.declared.Command.TheVariants.{Unknown, Nop, Load, Store, Show, Change}
use Rattle.command.specs.declared.Base.TheVariants.{Address, Pointer}
use Rattle.command.specs.Command.{halted_only}
use Rattle.board.specs.declared.Chain.{Chain}
use Rattle.board.specs.declared.Standing.{Standing}
use Rattle.board.specs.declared.Chain.TheVariants.{Off, Dumping, Filling}

abbrev pub is_dumping : Chain → Bool
is_dumping Off = false
is_dumping Dumping = true
is_dumping Filling = false

abbrev pub is_filling : Chain → Bool
is_filling Off = false
is_filling Dumping = false
is_filling Filling = true

-- "DUMP is legal only after READ or DUMP, FILL only after WRITE or FILL"; "Any other word .. is illegal"
abbrev pub follows : Command → Chain → Bool
follows Unknown chain = false
follows Nop chain = true
follows (Load s Address) chain = true
follows (Load s Pointer) chain = is_dumping chain
follows (Store s Address) chain = true
follows (Store s Pointer) chain = is_filling chain
follows (Show source) chain = true
follows (Change target) chain = true

-- ".. or a "halted" command while running, is illegal"
abbrev pub legal_command : Command → Standing → Bool
legal_command c s = (s.halted || not (halted_only c)) && follows c s.chain

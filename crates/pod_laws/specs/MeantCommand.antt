-- The pod's half (01, by eye), with the table of Packets (01): the command that a request means.
use Rattle.std.specs.Prelude.{cond, List, [], ◌∷◌, eqb}
use Rattle.command.specs.declared.DebugRegister.{DebugRegister}
use Rattle.command.specs.declared.DebugRegister.TheVariants.{Csr, Baar, Aatr, Tdr, Pbr, Pbmr, Abhr, Ablr, Dbr, Dbmr}
use Rattle.command.specs.declared.Command.{Command}
use Rattle.command.specs.declared.Command.TheVariants.{Unknown}
use Rattle.command.specs.Command as command
use Rattle.command.specs.Command.{Row, row, looked_up, debug_number}
use Rattle.requests.specs.declared.Request.{Request}
use Rattle.requests.specs.declared.Request.TheVariants.{Rdreg, Wdreg, Read, Write, Dump, Fill, Go, Nop, SyncPc, Rcreg, Wcreg, Rdmreg, Wdmreg}

abbrev listed : DebugRegister → Row
listed r = row (debug_number r) (command.wdmreg r)

-- "WDMREG takes .." these ten
abbrev pub debug_rows : List Row
debug_rows =
    listed Csr ∷ listed Baar ∷ listed Aatr ∷ listed Tdr ∷ listed Pbr ∷ listed Pbmr ∷ listed Abhr ∷ listed Ablr ∷ listed Dbr ∷ listed Dbmr ∷ []

-- the column "Command"; "Any other n from 0 to 31 is illegal at the command word"
abbrev pub command_of : Request → Command
command_of (Rdreg register) = command.rdreg register
command_of (Wdreg register value) = command.wdreg register
command_of (Read size address) = command.read size
command_of (Write size address value) = command.write size
command_of (Dump size) = command.dump size
command_of (Fill size value) = command.fill size
command_of Go = command.go
command_of Nop = command.nop
command_of SyncPc = command.sync_pc
command_of (Rcreg rc) = command.rcreg
command_of (Wcreg rc value) = command.wcreg
command_of (Rdmreg n) = cond (eqb n 0) command.rdmreg Unknown
command_of (Wdmreg n value) = looked_up n debug_rows

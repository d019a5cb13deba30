-- Packets (01): the table of commands. Word, operand words, result words, processor; and which commands wait.
use Rattle.std.specs.Prelude.{ℕ, ◌+◌, ◌/◌, ◌%◌, Bool, true, false, cond, List, [], ◌∷◌, eqb}
use Rattle.memory.specs.declared.Size.{Size}
use Rattle.memory.specs.declared.Size.TheVariants.{Byte, Word, Long}
use Rattle.command.specs.declared.DebugRegister.{DebugRegister}
use Rattle.command.specs.declared.DebugRegister.TheVariants.{Csr, Baar, Aatr, Tdr, Pbr, Pbmr, Abhr, Ablr, Dbr, Dbmr}
use Rattle.command.specs.declared.Command.{Command}
use Rattle.command.specs.declared.Command.TheVariants.{Unknown, Nop, Load, Store, Show, Change}
use Rattle.command.specs.declared.Base.{Base}
use Rattle.command.specs.declared.Base.TheVariants.{Address, Pointer}
use Rattle.command.specs.declared.Source.TheVariants as source
use Rattle.command.specs.declared.Target.TheVariants as target

-- the commands by their names in the table
abbrev pub read : Size → Command
read s = Load s Address

abbrev pub dump : Size → Command
dump s = Load s Pointer

abbrev pub write : Size → Command
write s = Store s Address

abbrev pub fill : Size → Command
fill s = Store s Pointer

abbrev pub rdreg : ℕ → Command
rdreg n = Show (source.General n)

abbrev pub wdreg : ℕ → Command
wdreg n = Change (target.General n)

abbrev pub rcreg : Command
rcreg = Show source.Control

abbrev pub wcreg : Command
wcreg = Change target.Control

abbrev pub rdmreg : Command
rdmreg = Show source.Csr

abbrev pub wdmreg : DebugRegister → Command
wdmreg r = Change (target.Debug r)

abbrev pub go : Command
go = Change target.Run

abbrev pub nop : Command
nop = Nop

abbrev pub sync_pc : Command
sync_pc = Change target.Sync

-- a line of the table with one word
pub record Row : Type 0 where
  pub word : ℕ
  pub command : Command

abbrev pub row : ℕ → Command → Row
row w c = record { word = w; command = c }

-- WDMREG "takes 0x00 CSR, 0x05 BAAR, 0x06 AATR, 0x07 TDR, 0x08 PBR, 0x09 PBMR, 0x0C ABHR, 0x0D ABLR, 0x0E DBR, 0x0F DBMR"
abbrev pub debug_number : DebugRegister → ℕ
debug_number Csr = 0x00
debug_number Baar = 0x05
debug_number Aatr = 0x06
debug_number Tdr = 0x07
debug_number Pbr = 0x08
debug_number Pbmr = 0x09
debug_number Abhr = 0x0C
debug_number Ablr = 0x0D
debug_number Dbr = 0x0E
debug_number Dbmr = 0x0F

abbrev pub wdmreg_row : DebugRegister → Row
wdmreg_row r = row (0x2C80 + debug_number r) (wdmreg r)

-- the words of the table but for the two ranges of RDREG/RAREG and WDREG/WAREG; RDMREG takes n = 0
abbrev pub table : List Row
table =
    row 0x1900 (read Byte)
    ∷ row 0x1940 (read Word)
    ∷ row 0x1980 (read Long)
    ∷ row 0x1800 (write Byte)
    ∷ row 0x1840 (write Word)
    ∷ row 0x1880 (write Long)
    ∷ row 0x1D00 (dump Byte)
    ∷ row 0x1D40 (dump Word)
    ∷ row 0x1D80 (dump Long)
    ∷ row 0x1C00 (fill Byte)
    ∷ row 0x1C40 (fill Word)
    ∷ row 0x1C80 (fill Long)
    ∷ row 0x0C00 go
    ∷ row 0x0000 Nop
    ∷ row 0x0001 sync_pc
    ∷ row 0x2980 rcreg
    ∷ row 0x2880 wcreg
    ∷ row 0x2D80 rdmreg
    ∷ wdmreg_row Csr
    ∷ wdmreg_row Baar
    ∷ wdmreg_row Aatr
    ∷ wdmreg_row Tdr
    ∷ wdmreg_row Pbr
    ∷ wdmreg_row Pbmr
    ∷ wdmreg_row Abhr
    ∷ wdmreg_row Ablr
    ∷ wdmreg_row Dbr
    ∷ wdmreg_row Dbmr
    ∷ []

-- "Any other word" is no command
abbrev pub looked_up : ℕ → List Row → Command
looked_up w [] = Unknown
looked_up w (r ∷ rs) = cond (eqb w r.word) r.command (looked_up w rs)

unfoldable pub decoded_word : ℕ → Command
decoded_word w = looked_up w table

-- RDREG/RAREG "0x2180 to 0x218F", WDREG/WAREG "0x2080 to 0x208F", and the table
unfoldable pub decoded : ℕ → Command
decoded w = cond (eqb (w / 16) 0x218) (rdreg (w % 16)) (cond (eqb (w / 16) 0x208) (wdreg (w % 16)) (decoded_word w))

-- the words that a value of the size takes on the port
abbrev pub size_words : Size → ℕ
size_words Byte = 1
size_words Word = 1
size_words Long = 2

-- an address sent takes two
abbrev pub load_words : Base → ℕ
load_words Address = 2
load_words Pointer = 0

abbrev pub store_words : Base → Size → ℕ
store_words Address s = 2 + size_words s
store_words Pointer s = size_words s

-- a line of the table beside its word: "Operand words"; "Result words", 0 where it says "complete"; "Processor", halted and not any; and
-- "memory and control-register commands wait W packets"
pub record Columns : Type 0 where
  pub operands : ℕ
  pub results : ℕ
  pub halted : Bool
  pub waiting : Bool

abbrev columns : ℕ → ℕ → Bool → Bool → Columns
columns operands results halted waiting = record { operands = operands; results = results; halted = halted; waiting = waiting }

abbrev pub line : Command → Columns
line (Show (source.General n)) = columns 0 2 true false
line (Change (target.General n)) = columns 2 0 true false
line (Load s base) = columns (load_words base) (size_words s) false true
line (Store s base) = columns (store_words base s) 0 false true
line (Change target.Run) = columns 0 0 true false
line Nop = columns 0 0 false false
line (Change target.Sync) = columns 0 0 false false
line (Show source.Control) = columns 2 2 true true
line (Change target.Control) = columns 4 0 true true
line (Show source.Csr) = columns 0 2 false false
line (Change (target.Debug r)) = columns 2 0 false false
line Unknown = columns 0 0 false false

abbrev pub operand_words : Command → ℕ
operand_words c = (line c).operands

abbrev pub result_words : Command → ℕ
result_words c = (line c).results

abbrev pub halted_only : Command → Bool
halted_only c = (line c).halted

abbrev pub waits : Command → Bool
waits c = (line c).waiting

-- The pod's half (01, by eye), with the table of Packets (01): a request's command and operand words, C clear.
use Rattle.std.specs.Prelude.{ℕ, ◌+◌, ◌/◌, ◌%◌, List, [], ◌∷◌, ◌++◌}
use Rattle.memory.specs.declared.Size.{Size}
use Rattle.memory.specs.declared.Size.TheVariants.{Byte, Word, Long}
use Rattle.requests.specs.declared.Request.{Request}
use Rattle.requests.specs.declared.Request.TheVariants.{Rdreg, Wdreg, Read, Write, Dump, Fill, Go, Nop, SyncPc, Rcreg, Wcreg, Rdmreg, Wdmreg}

-- "b/w/l" in the column "Word"
abbrev pub size_code : Size → ℕ
size_code Byte = 0x00
size_code Word = 0x40
size_code Long = 0x80

-- the column "Word"
abbrev pub command_word : Request → ℕ
command_word (Rdreg register) = 0x2180 + register
command_word (Wdreg register value) = 0x2080 + register
command_word (Read size address) = 0x1900 + size_code size
command_word (Write size address value) = 0x1800 + size_code size
command_word (Dump size) = 0x1D00 + size_code size
command_word (Fill size value) = 0x1C00 + size_code size
command_word Go = 0x0C00
command_word Nop = 0x0000
command_word SyncPc = 0x0001
command_word (Rcreg rc) = 0x2980
command_word (Wcreg rc value) = 0x2880
command_word (Rdmreg n) = 0x2D80 + n
command_word (Wdmreg n value) = 0x2C80 + n

-- "Addresses and longwords go upper word first."
abbrev pub halves : ℕ → List ℕ
halves value = (value / 65536) ∷ (value % 65536) ∷ []

abbrev pub data_words : Size → ℕ → List ℕ
data_words Byte value = value ∷ []
data_words Word value = value ∷ []
data_words Long value = halves value

-- the column "Operand words": the address or Rc, and then the data
abbrev pub operands : Request → List ℕ
operands (Rdreg register) = []
operands (Wdreg register value) = halves value
operands (Read size address) = halves address
operands (Write size address value) = halves address ++ data_words size value
operands (Dump size) = []
operands (Fill size value) = data_words size value
operands Go = []
operands Nop = []
operands SyncPc = []
operands (Rcreg rc) = halves rc
operands (Wcreg rc value) = halves rc ++ halves value
operands (Rdmreg n) = []
operands (Wdmreg n value) = halves value

-- "It builds command and operand words, C clear."
abbrev pub built_words : Request → List ℕ
built_words request = command_word request ∷ operands request

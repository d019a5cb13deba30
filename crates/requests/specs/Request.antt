-- The pod's half (01, by eye): the ranges of a request's fields, and the result it asks for.
use Rattle.std.specs.Prelude.{ℕ, Bool, true, ◌&&◌, leb, None, Option, Some}
use Rattle.memory.specs.declared.Size.{Size}
use Rattle.memory.specs.declared.Size.TheVariants.{Byte, Word, Long}
use Rattle.command.specs.Command.{size_words}
use Rattle.requests.specs.declared.Request.{Request}
use Rattle.requests.specs.declared.Request.TheVariants.{Rdreg, Wdreg, Read, Write, Dump, Fill, Go, Nop, SyncPc, Rcreg, Wcreg, Rdmreg, Wdmreg}

-- ".. and data within its size"
abbrev pub data_in_range : Size → ℕ → Bool
data_in_range Byte value = leb value 0xFF
data_in_range Word value = leb value 0xFFFF
data_in_range Long value = leb value 0xFFFFFFFF

-- "takes registers 0 to 15, Rc 0 to 0xFFF, n 0 to 31 and data within its size"; an address is a longword
abbrev pub in_range : Request → Bool
in_range (Rdreg register) = leb register 15
in_range (Wdreg register value) = data_in_range Long value && leb register 15
in_range (Read size address) = data_in_range Long address
in_range (Write size address value) = data_in_range Long address && data_in_range size value
in_range (Dump size) = true
in_range (Fill size value) = data_in_range size value
in_range Go = true
in_range Nop = true
in_range SyncPc = true
in_range (Rcreg rc) = leb rc 0xFFF
in_range (Wcreg rc value) = data_in_range Long value && leb rc 0xFFF
in_range (Rdmreg n) = leb n 31
in_range (Wdmreg n value) = data_in_range Long value && leb n 31

-- the column "Result words": "complete", 1, or 2 for a longword
abbrev pub kind_of : Request → Option Size
kind_of (Rdreg register) = Some Long
kind_of (Wdreg register value) = None
kind_of (Read size address) = Some size
kind_of (Write size address value) = None
kind_of (Dump size) = Some size
kind_of (Fill size value) = None
kind_of Go = None
kind_of Nop = None
kind_of SyncPc = None
kind_of (Rcreg rc) = Some Long
kind_of (Wcreg rc value) = None
kind_of (Rdmreg n) = Some Long
kind_of (Wdmreg n value) = None

-- .. and how many words that is; none with "complete"
abbrev pub kind_words : Option Size → ℕ
kind_words None = 0
kind_words (Some size) = size_words size

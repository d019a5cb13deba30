-- Events and firing (01, amended by [1] of 02): the size field of an access, and the lanes that it carries.
use Rattle.std.specs.Prelude.{ℕ, ◌/◌, ◌%◌, ◌^◌, Bool, cond, eqb}
use Rattle.std.specs.Int.Bits.{bit_and}
use Rattle.comparators.specs.declared.BusAccess.{BusAccess}

-- "The size field is attribute bits 6-5: 00 longword, 01 byte, 10 word, 11 reserved."
abbrev pub size_field : BusAccess → ℕ
size_field access = access.attribute / 2 ^ 5 % 4

-- "byte at address mod 4 = 0, 1, 2, 3 in D[31:24], [23:16], [15:8], [7:0]"
unfoldable pub byte_lanes : ℕ → ℕ
byte_lanes address =
    cond (eqb (address % 4) 0) 0xFF000000 (cond (eqb (address % 4) 1) 0x00FF0000 (cond (eqb (address % 4) 2) 0x0000FF00 0x000000FF))

-- "word in the upper half if address bit 1 is 0, else the lower"
abbrev pub word_lanes : ℕ → ℕ
word_lanes address = cond (eqb (address / 2 % 2) 0) 0xFFFF0000 0x0000FFFF

-- "longword in all"; the reserved size, which is refused, carries none
unfoldable pub carried_lanes : BusAccess → ℕ
carried_lanes access =
    cond (eqb (size_field access) 0) 0xFFFFFFFF
    (cond (eqb (size_field access) 1) (byte_lanes access.address) (cond (eqb (size_field access) 2) (word_lanes access.address) 0))

-- [1] of 02: "only if the access carries all its lanes"
unfoldable pub carries_all : ℕ → BusAccess → Bool
carries_all lanes access = eqb (bit_and lanes (carried_lanes access)) lanes

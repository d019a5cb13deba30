-- Examples of building and reading, computed from the definitions.
use Rattle.std.specs.Prelude.{◌≡◌, refl, [], ◌∷◌, Err, None, Ok, Some}
use Rattle.memory.specs.declared.Size.TheVariants.{Byte, Word, Long}
use Rattle.grounds.specs.declared.Ground.TheVariants.{WordTooLarge, BufferTooShort, RequestOutOfRange, ImpossibleReply}
use Rattle.requests.specs.declared.Request.TheVariants.{Rdreg, Read, Write, Dump, Go, Rcreg, Wcreg, Rdmreg, Wdmreg}
use Rattle.readings.specs.declared.Outcome.TheVariants.{Value, Complete, BusError, Illegal}
use Rattle.building.specs.RequestWords.{built_words}
use Rattle.building.specs.Building.{building_verdict, buffer_at}
use Rattle.readings.specs.Reading.{reading}

pub write_long_built : built_words (Write Long 0x12345678 0xCAFE0001) ≡ 0x1880 ∷ 0x1234 ∷ 0x5678 ∷ 0xCAFE ∷ 0x0001 ∷ []
write_long_built = refl

pub rcreg_built : built_words (Rcreg 0x801) ≡ 0x2980 ∷ 0x0000 ∷ 0x0801 ∷ []
rcreg_built = refl

-- n = 31 is not listed, and is built
pub unlisted_built : built_words (Wdmreg 31 7) ≡ 0x2C9F ∷ 0 ∷ 7 ∷ []
unlisted_built = refl

pub words_beyond_stay : buffer_at (building_verdict (Read Byte 4) 5) (Read Byte 4) (9 ∷ 9 ∷ 9 ∷ 9 ∷ 9 ∷ []) ≡ 0x1900 ∷ 0 ∷ 4 ∷ 9 ∷ 9 ∷ []
words_beyond_stay = refl

-- "13, 11": both would do, and 13 comes first
pub range_before_room : building_verdict (Wcreg 0x1000 0) 4 ≡ Err RequestOutOfRange
range_before_room = refl

pub one_word_short : building_verdict (Wcreg 0xFFF 0) 4 ≡ Err BufferTooShort
one_word_short = refl

pub read_long : reading (Read Long 4) (0x10000 ∷ 0x10000 ∷ 0x00405 ∷ 0x00607 ∷ 0x2FFFF ∷ []) ≡ Ok (Some (Value 0x04050607), 4)
read_long = refl

pub read_long_half : reading (Read Long 4) (0x10000 ∷ 0x10000 ∷ 0x00405 ∷ []) ≡ Ok (None, 3)
read_long_half = refl

pub nothing_read : reading Go [] ≡ Ok (None, 0)
nothing_read = refl

pub go_complete : reading Go (0x0FFFF ∷ []) ≡ Ok (Some Complete, 1)
go_complete = refl

pub read_outside : reading (Read Byte 0) (0x10000 ∷ 0x10000 ∷ 0x10001 ∷ []) ≡ Ok (Some BusError, 3)
read_outside = refl

pub dump_illegal : reading (Dump Word) (0x1FFFF ∷ []) ≡ Ok (Some Illegal, 1)
dump_illegal = refl

-- 0x0FFFF is a value for a word, and 14 for a byte
pub word_of_ones : reading (Dump Word) (0x0FFFF ∷ []) ≡ Ok (Some (Value 0xFFFF), 1)
word_of_ones = refl

pub byte_too_large : reading (Dump Byte) (0x00100 ∷ []) ≡ Err ImpossibleReply
byte_too_large = refl

-- S=1 in the second result word, 0x10000 too
pub second_not_ready : reading (Rdreg 15) (0x00001 ∷ 0x10000 ∷ []) ≡ Err ImpossibleReply
second_not_ready = refl

pub status_not_listed : reading (Rdmreg 0) (0x10000 ∷ 0x10002 ∷ []) ≡ Err ImpossibleReply
status_not_listed = refl

pub go_with_data : reading Go (0x00000 ∷ []) ≡ Err ImpossibleReply
go_with_data = refl

-- "1 before 14"
pub word_too_large : reading (Rdreg 0) (0x00001 ∷ 0x20000 ∷ []) ≡ Err WordTooLarge
word_too_large = refl

pub range_before_replies : reading (Rdreg 16) (0x20000 ∷ []) ≡ Err RequestOutOfRange
range_before_replies = refl

-- Laws of one reply: what the reader makes of each that the port can give, by 01's own numbers.
use Rattle.std.specs.Prelude.{ℕ, ◌/◌, ◌%◌, ◌≤◌, ◌≡◌, refl, None, Option, Some}
use Rattle.memory.specs.declared.Size.{Size}
use Rattle.std.proofs.Common.{arith, div-add-mod', le-leb}
use Rattle.memory.specs.declared.Size.TheVariants.{Byte, Word, Long}
use Rattle.readings.specs.declared.Outcome.TheVariants.{Value, Complete, BusError, Illegal}
use Rattle.readings.specs.declared.Reader.TheVariants.{First, Second, Closed}
use Rattle.readings.specs.Reader.{after_reply}

pub after_not_ready : (kind : Option Size) → after_reply kind First 0x10000 ≡ First
after_not_ready kind = refl

pub after_bus_error : (kind : Option Size) → after_reply kind First 0x10001 ≡ Closed BusError
after_bus_error kind = refl

pub after_illegal : (kind : Option Size) → after_reply kind First 0x1FFFF ≡ Closed Illegal
after_illegal kind = refl

pub after_complete : after_reply None First 0x0FFFF ≡ Closed Complete
after_complete = refl

pub after_byte : (value : ℕ) → value ≤ 0xFF → after_reply (Some Byte) First value ≡ Closed (Value value)
after_byte value h = rw (le-leb value 0x1FFFF (omega arith), le-leb value 0xFFFF (omega arith), le-leb value 0xFF h)

pub after_word : (value : ℕ) → value ≤ 0xFFFF → after_reply (Some Word) First value ≡ Closed (Value value)
after_word value h = rw (le-leb value 0x1FFFF (omega arith), le-leb value 0xFFFF h)

-- the two words of a longword, upper first
pub after_upper : (value : ℕ) → value ≤ 0xFFFFFFFF → after_reply (Some Long) First (value / 65536) ≡ Second (value / 65536)
after_upper value h = rw (le-leb (value / 65536) 0x1FFFF (omega arith), le-leb (value / 65536) 0xFFFF (omega arith))

pub after_lower : (kind : Option Size) (value : ℕ) → after_reply kind (Second (value / 65536)) (value % 65536) ≡ Closed (Value value)
after_lower kind value = rw (le-leb (value % 65536) 0x1FFFF (omega arith), le-leb (value % 65536) 0xFFFF (omega arith), div-add-mod' value 65536)

-- Laws of a request's words: how many hold a value, and C is clear in each.
use Rattle.std.specs.Prelude.{ℕ, ◌≤◌, ◌≡◌, refl, true, List, [], ◌∷◌, ◌++◌, length}
use Rattle.std.proofs.Common.{arith, leb-true}
use Rattle.laws.specs.TestLaws.{both_hold}
use Rattle.memory.specs.declared.Size.{Size}
use Rattle.memory.specs.declared.Size.TheVariants.{Byte, Word, Long}
use Rattle.command.specs.Command.{size_words}
use Rattle.requests.specs.declared.Request.{Request}
use Rattle.requests.specs.declared.Request.TheVariants.{Rdreg, Wdreg, Read, Write, Dump, Fill, Go, Nop, SyncPc, Rcreg, Wcreg, Rdmreg, Wdmreg}
use Rattle.requests.specs.Request.{data_in_range, in_range}
use Rattle.building.specs.RequestWords.{size_code, command_word, halves, data_words, operands, built_words}

pub data_length : (size : Size) (value : ℕ) → length (data_words size value) ≡ size_words size
data_length Byte value = refl
data_length Word value = refl
data_length Long value = refl

-- every word of the list has C clear
abbrev pub Clear : List ℕ → Type 0
Clear [] = Unit {0}
Clear (word ∷ words) = (word ≤ 0xFFFF) × Clear words

clear_append : (xs ys : List ℕ) → Clear xs → Clear ys → Clear (xs ++ ys)
clear_append [] ys f g = g
clear_append (x ∷ xs) ys f g = (f.0, clear_append xs ys f.1 g)

size_code_bound : (size : Size) → size_code size ≤ 0x80
size_code_bound Byte = omega arith
size_code_bound Word = omega arith
size_code_bound Long = omega arith

halves_clear : (value : ℕ) → value ≤ 0xFFFFFFFF → Clear (halves value)
halves_clear value h = (omega arith, (omega arith, tt))

long_clear : (value : ℕ) → data_in_range Long value ≡ true → Clear (halves value)
long_clear value h = halves_clear value (leb-true value 0xFFFFFFFF h)

data_clear : (size : Size) (value : ℕ) → data_in_range size value ≡ true → Clear (data_words size value)
data_clear Byte value h = (omega (arith, leb-true value 0xFF h), tt)
data_clear Word value h = (leb-true value 0xFFFF h, tt)
data_clear Long value h = long_clear value h

-- "C clear"
pub built_clear : (request : Request) → in_range request ≡ true → Clear (built_words request)
built_clear (Rdreg register) h = (omega (arith, leb-true register 15 h), tt)
built_clear (Wdreg register value) h =
    let ranges = both_hold (data_in_range Long value) _ h in
    (omega (arith, leb-true register 15 ranges.1), long_clear value ranges.0)
built_clear (Read size address) h = (omega (arith, size_code_bound size), long_clear address h)
built_clear (Write size address value) h =
    let ranges = both_hold (data_in_range Long address) _ h in
    let sent = data_clear size value ranges.1 in
    (omega (arith, size_code_bound size), clear_append (halves address) (data_words size value) (long_clear address ranges.0) sent)
built_clear (Dump size) h = (omega (arith, size_code_bound size), tt)
built_clear (Fill size value) h = (omega (arith, size_code_bound size), data_clear size value h)
built_clear Go h = (omega arith, tt)
built_clear Nop h = (omega arith, tt)
built_clear SyncPc h = (omega arith, tt)
built_clear (Rcreg rc) h = let small = leb-true rc 0xFFF h in (omega arith, (omega arith, (omega arith, tt)))
built_clear (Wcreg rc value) h =
    let ranges = both_hold (data_in_range Long value) _ h in
    (omega arith, clear_append (halves rc) (halves value) (halves_clear rc (omega (arith, leb-true rc 0xFFF ranges.1))) (long_clear value ranges.0))
built_clear (Rdmreg n) h = (omega (arith, leb-true n 31 h), tt)
built_clear (Wdmreg n value) h =
    let ranges = both_hold (data_in_range Long value) _ h in
    (omega (arith, leb-true n 31 ranges.1), long_clear value ranges.0)

pub command_word_clear : (request : Request) → in_range request ≡ true → command_word request ≤ 0xFFFF
command_word_clear request h = (built_clear request h).0

pub operands_clear : (request : Request) → in_range request ≡ true → Clear (operands request)
operands_clear request h = (built_clear request h).1
